-- Board texts: numbers of one or two decimal digits, with separators between them.
use Rattle.std.specs.Prelude.{◌≡◌, ℕ, ◌+◌, ◌≤◌, ◌==◌, nat_lt, nat_le, ◌&&◌, ◌||◌, not, if◌then◌else◌, All, Bool, List, length, slice_index, take, map, filter, position, Option, Some, None, Result, Ok, Err}
use Rattle.std.specs.Char.{is_ascii_digit}
use Rattle.std.specs.List.{AllPass, list_any, slice_split}
use Rattle.std.specs.Str.Parse.{digits_value}
use Rattle.puz_board.specs.Boards.{IsBoard, side_of}
use Rattle.puz_board.specs.First.{first_below}
use Rattle.puz_board.specs.declared.texts.BoardFault.{BoardFault}
use Rattle.puz_board.specs.declared.texts.BoardFault.TheVariants.{B1, B2, B3, B4, B5}

-- ---- what a board text is

-- a space, a tab, a CR or an LF
abbrev pub is_separator : ℕ → Bool
is_separator b = b == 32 || b == 9 || b == 13 || b == 10

-- what stands between the separators, without the empty parts
abbrev pub parts : List ℕ → List (List ℕ)
parts text = filter (λ part. nat_lt 0 (length part)) (slice_split is_separator text)

-- the numbers that the parts spell in decimal
unfoldable pub numbers_in : List ℕ → List ℕ
numbers_in text = map (digits_value 10) (parts text)

-- digits alone, and at most two of them
pub record IsShortNumeral (part : List ℕ) : Type 0 where
  pub digits : AllPass is_ascii_digit part
  pub short : length part ≤ 2

-- between separators the text has numbers of one or two digits, and they are this board
pub record Spells (text b : List ℕ) : Type 0 where
  pub numerals : All IsShortNumeral (parts text)
  pub numbers : numbers_in text ≡ b
  pub board : IsBoard b

-- ---- the faults, in their order

-- the first byte that is neither a digit nor a separator
unfoldable pub stray_byte : List ℕ → Option ℕ
stray_byte text = position (λ b. not (is_ascii_digit b || is_separator b)) text

-- three digits stand in a row from place i on
abbrev pub three_digits_at : List ℕ → ℕ → Bool
three_digits_at text i = is_ascii_digit (slice_index text i) && is_ascii_digit (slice_index text (i + 1)) && is_ascii_digit (slice_index text (i + 2))

-- the first such place, which is where the first run of more than two digits begins
unfoldable pub long_run : List ℕ → Option ℕ
long_run text = first_below (three_digits_at text) (length text)

-- the first number that isn't below the count of numbers
unfoldable pub too_large : List ℕ → Option ℕ
too_large numbers = position (λ x. nat_le (length numbers) x) numbers

-- the number with index i equals an earlier one
abbrev pub repeated_at : List ℕ → ℕ → Bool
repeated_at numbers i = list_any (λ x. x == slice_index numbers i) (take i numbers)

-- the first number that equals an earlier one
unfoldable pub repeated : List ℕ → Option ℕ
repeated numbers = first_below (repeated_at numbers) (length numbers)

-- the fault where it is found, and otherwise the rest
abbrev pub refuse : {A F : Type 0} → (ℕ → F) → Option ℕ → Result A F → Result A F
refuse fault (Some place) rest = Err (fault place)
refuse fault None rest = rest

-- the board that numbers make, or the first of their faults
unfoldable pub board_of_numbers : List ℕ → Result (List ℕ) BoardFault
board_of_numbers numbers =
    if side_of numbers == 0 then Err (B3 (length numbers)) else
    refuse B4 (too_large numbers) (refuse B5 (repeated numbers) (Ok numbers))

-- the board that a text spells, or the first of its faults
unfoldable pub board_of_text : List ℕ → Result (List ℕ) BoardFault
board_of_text text = refuse B1 (stray_byte text) (refuse B2 (long_run text) (board_of_numbers (numbers_in text)))
