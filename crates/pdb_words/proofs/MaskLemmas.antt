-- What is read of a text that writes a mask.
use Rattle.std.proofs.Common.{◌≡◌, ◌<◌, ◌≤◌, ◌≢◌, ◌+◌, ◌-◌, ◌^◌, ◌&&◌, Bool, not, ◌*◌, ◌/◌, ◌%◌, ◌⊎◌, ◌∙◌, arith, inl, inr, refl, sym, ap, true, false, ℕ}
use Rattle.std.proofs.Common.{List, [], ◌∷◌, ◌++◌, decimal, length}
use Rattle.std.specs.List.{after_first, before_first, list_all, list_any, position_or_len, slice_split}
use Rattle.std.specs.Borrow.{Bor}
use Rattle.std.specs.Char.{digit_value}
use Rattle.std.specs.Prelude.{◌==◌, Option, Some, None, Result, Ok, Err, MatchOption, if◌then◌else◌, bit_or, nat_lt, option_and_then, option_map, slice_index}
use Rattle.std.specs.Int.{bit_at}
use Rattle.std.specs.Result.{result_ok}
use Rattle.std.specs.Str.Parse.{ParsesUnsigned, digits_value, without_leading_plus}
use Rattle.std.specs.Str.Pattern.{FindsTextPrefix, StripsPrefix}
use Rattle.std.proofs.lemmas.Bool.{cases_Bool, cases_eq, cases_lt}
use Rattle.std.proofs.lemmas.Bool.Decides.{nat_tests}
use Rattle.std.proofs.lemmas.Fmt.{decimal_digit, decimal_step}
use Rattle.std.proofs.lemmas.List.Splits.{slice_split_first}
use Rattle.std.proofs.lemmas.Nat.{or_disjoint}
use Rattle.std.proofs.lemmas.Nat.Bits.{and_pow, bit_at-lt, bit_at-pow_other, bit_at-pow_same, bit_at-zero, bit_at_or}
use Rattle.std.proofs.lemmas.Slice.Eq.{bytes_eq-Decides}
use Rattle.std.proofs.lemmas.Str.Pattern.{starts_text}
use Rattle.clap.specs.Walk.{Text}
use Rattle.pdb_words.specs.Masks.{are_apart, behind, hexadecimal_mask, mask_of_tiles, most_mask, tile_written, tiles_mask, tiles_named, tiles_written}
use Rattle.pdb_words.specs.Numbers.{number_written}
use Rattle.pdb_words.specs.TileBits.{with_each, with_tile, with_tiles}
use Rattle.pdb_words.proofs.NumberLemmas.{digits_tested}

-- what `strip_prefix` leaves
pub behind_is : (front text : Text) (r : Option (Bor Text))
    → MatchOption r (FindsTextPrefix front text None) (λ x. StripsPrefix (FindsTextPrefix front) text x.now) → option_map (λ x. x.now) r ≡ behind front text
behind_is front text None none = grind (arith, starts_text false front text none)
behind_is front text (Some x) found = grind (arith, starts_text true front text (found.0, found.1, rw found.1.0 found.1.2))

-- ---- numbers

module _ {E : Type 0} (text : Text) where
  -- a parser of decimal numbers of 32 bits reads the mask that a text writes
  pub decimal_read : (r : Result ℕ E) → ParsesUnsigned 32 10 text r → result_ok r ≡ number_written 0 most_mask text
  decimal_read (Ok n) parsed = grind (arith, nat_tests, digits_tested 10 (without_leading_plus text))
  decimal_read (Err e) parsed = grind (arith, nat_tests, digits_tested 10 (without_leading_plus text))

  -- a parser of hexadecimal numbers of 32 bits reads the mask of a text without a plus in front
  pub hexadecimal_read : (r : Result ℕ E) → (slice_index text 0 == 43) ≡ false → ParsesUnsigned 32 16 text r → result_ok r ≡ hexadecimal_mask text
  hexadecimal_read (Ok n) unsigned parsed = grind (arith, nat_tests, digits_tested 16 text)
  hexadecimal_read (Err e) unsigned parsed = grind (arith, nat_tests, digits_tested 16 text)

-- ---- the numbers of tiles

-- a digit is written by its own byte
digit_is : (a : ℕ) → 48 ≤ a → a ≤ 57 → digit_value a ≡ a - 48
digit_is a low high = grind (arith, nat_tests)

-- two digits are those of the number, the first of which isn't 0
two_digits : (n : ℕ) → 10 ≤ n → n < 100 → decimal n ≡ (48 + n / 10) ∷ (48 + n % 10) ∷ []
two_digits n some few = decimal_step n some (omega arith) ∙ ap (λ ds. ds ++ ((48 + n % 10) ∷ [])) (decimal_digit (n / 10) (omega arith))

-- a digit alone writes the number of its tile
pub one_digit_written : (a : ℕ) → 48 ≤ a → a ≤ 57 → tile_written (a ∷ []) ≡ Some (a - 48)
one_digit_written a low high = grind (arith, nat_tests, digit_is a low high, decimal_digit (a - 48) (omega arith), bytes_eq-Decides (a ∷ []) (decimal (a - 48)))

two_digits_written : (a b : ℕ) → 48 < a → a ≤ 57 → 48 ≤ b → b ≤ 57
    → tile_written (a ∷ b ∷ []) ≡ (let n = 10 * (a - 48) + (b - 48) in if nat_lt n 32 then Some n else None)
two_digits_written a b low high low_b high_b =
    let n = 10 * (a - 48) + (b - 48) in
    grind (
      arith,
      nat_tests,
      digit_is a (omega arith) high,
      digit_is b low_b high_b,
      two_digits n (omega arith) (omega arith),
      bytes_eq-Decides (a ∷ b ∷ []) (decimal n),
    )

-- two digits, the first not 0, write their number where it is below 32
pub two_digits_small : (a b n : ℕ) → 48 < a → a ≤ 57 → 48 ≤ b → b ≤ 57 → n ≡ 10 * (a - 48) + (b - 48) → n < 32 → Some n ≡ tile_written (a ∷ b ∷ [])
two_digits_small a b n low high low_b high_b is small = rw (two_digits_written a b low high low_b high_b) (grind (arith, nat_tests))

-- a text that is the decimal of no tile writes none
pub none_written : (text : Text) → ((n : ℕ) → n < 32 → text ≢ decimal n) → tile_written text ≡ None
none_written text none = grind (arith, nat_tests, none (digits_value 10 text), bytes_eq-Decides text (decimal (digits_value 10 text)))

-- a number below 32 has one digit or two
shape : (n : ℕ) → n < 32 → ((n < 10) × (decimal n ≡ (48 + n) ∷ [])) ⊎ ((10 ≤ n) × (decimal n ≡ (48 + n / 10) ∷ (48 + n % 10) ∷ []))
shape n small = elim (cases_lt n 10) [
  | inl l ↦ inl (l, decimal_digit n l)
  | inr l ↦ inr (l, two_digits n l (omega arith))
]

-- a byte that is no digit writes no tile
pub no_digit_written : (a : ℕ) → (a < 48) ⊎ (57 < a) → tile_written (a ∷ []) ≡ None
no_digit_written a other = none_written (a ∷ []) (λ n small e. grind (arith, shape n small))

-- two bytes write no tile where the first isn't 1 to 3 or the second is no digit
pub no_digits_written : (a b : ℕ) → (a < 49) ⊎ ((51 < a) ⊎ ((b < 48) ⊎ (57 < b))) → tile_written (a ∷ b ∷ []) ≡ None
no_digits_written a b other = none_written (a ∷ b ∷ []) (λ n small e. grind (arith, shape n small))

-- a text of no byte or of more than two writes no tile
pub other_length_written : (text : Text) → length text ≢ 1 → length text ≢ 2 → tile_written text ≡ None
other_length_written text one two = none_written text (λ n small e. grind (arith, shape n small))

-- ---- tiles between commas

abbrev is_comma : ℕ → Bool
is_comma byte = byte == 44

one_part : (text : Text) → position_or_len is_comma text ≡ length text → slice_split is_comma text ≡ text ∷ []
one_part [] none = refl
one_part (byte ∷ text) none = grind (arith, nat_tests, one_part text)

-- the only part, and the first of more
pub last_tile : (mask : ℕ) (text : Text) → position_or_len is_comma text ≡ length text
    → with_tiles mask (slice_split is_comma text) ≡ option_and_then (with_each mask) (tiles_named text)
last_tile mask text none = rw (one_part text none) (grind arith)

-- the mask of tiles between commas has the first one, and then those of the rest
pub first_tile : (mask : ℕ) (text first rest : Text) → first ≡ before_first is_comma text → rest ≡ after_first is_comma text
    → position_or_len is_comma text < length text
    → with_tiles mask (slice_split is_comma text) ≡ option_and_then (λ more. with_tiles more (slice_split is_comma rest))
    (option_and_then (with_each mask) (tiles_named first))
first_tile mask text first rest is_first is_rest some = rw (slice_split_first is_comma text 0 some, is_first, is_rest) refl

-- ---- the bits of tiles, and their sum

-- the mask has none of the tiles
abbrev are_out : ℕ → List ℕ → Bool
are_out mask tiles = list_all (λ tile. not (bit_at mask tile == 1)) tiles

-- the mask with one tile more is the sum of both
one_more : (mask tile : ℕ) → (bit_at mask tile == 1) ≡ false → bit_or mask (2 ^ tile) ≡ mask + 2 ^ tile
one_more mask tile out =
    or_disjoint mask (2 ^ tile) (and_pow mask tile ∙ (let low = bit_at-lt mask tile in let zero : bit_at mask tile ≡ 0 = grind (arith, nat_tests) in
    rw zero (omega arith)))

out_of_more : (mask tile other : ℕ) → not (bit_at (bit_or mask (2 ^ tile)) other == 1) ≡ (not (bit_at mask other == 1) && not (other == tile))
out_of_more mask tile other = elim (cases_eq other tile) [
  | inl e ↦ rw e (grind (arith, nat_tests, bit_at_or mask (2 ^ tile) tile, bit_at-pow_same tile, bit_at-lt mask tile))
  | inr ne ↦ grind (arith, nat_tests, bit_at_or mask (2 ^ tile) other, bit_at-pow_other tile other ne, bit_at-lt mask other)
]

all_out_of_more : (mask tile : ℕ) (tiles : List ℕ)
    → are_out (bit_or mask (2 ^ tile)) tiles ≡ (are_out mask tiles && not (list_any (λ other. other == tile) tiles))
all_out_of_more mask tile [] = refl
all_out_of_more mask tile (other ∷ tiles) = grind (arith, out_of_more mask tile other, all_out_of_more mask tile tiles)

-- the mask with tiles that it doesn't have, none twice
abbrev joined : ℕ → List ℕ → Option ℕ
joined mask tiles = if are_out mask tiles && are_apart tiles then Some (mask + mask_of_tiles tiles) else None

joined_more : (mask tile : ℕ) (tiles : List ℕ) → (bit_at mask tile == 1) ≡ false → joined (bit_or mask (2 ^ tile)) tiles ≡ joined mask (tile ∷ tiles)
joined_more mask tile tiles out = rw (all_out_of_more mask tile tiles, out, one_more mask tile out) (grind arith)

joined_has : (mask tile : ℕ) (tiles : List ℕ) → (bit_at mask tile == 1) ≡ true → joined mask (tile ∷ tiles) ≡ None
joined_has mask tile tiles has = rw has refl

-- the mask with some tiles, and then with others, has all of them
each_more : (mask : ℕ) (tiles others : List ℕ) → with_each mask (tiles ++ others) ≡ option_and_then (λ more. with_each more others) (with_each mask tiles)
each_more mask [] others = refl
each_more mask (tile ∷ tiles) others = next (with_tile mask tile) (λ more. each_more more tiles others)
  where
    next : (more : Option ℕ) → ((m : ℕ) → with_each m (tiles ++ others) ≡ option_and_then (λ n. with_each n others) (with_each m tiles))
        → option_and_then (λ m. with_each m (tiles ++ others)) more
        ≡ option_and_then (λ n. with_each n others) (option_and_then (λ m. with_each m tiles) more)
    next None later = refl
    next (Some m) later = later m

-- the mask with tiles, one after the other, is their joint mask
each_joined : (mask : ℕ) (tiles : List ℕ) → with_each mask tiles ≡ joined mask tiles
each_joined mask [] = grind arith
each_joined mask (tile ∷ tiles) = elim (cases_Bool (bit_at mask tile == 1)) [
  | inl has ↦ grind (arith, joined_has mask tile tiles has)
  | inr out ↦ grind (arith, each_joined (bit_or mask (2 ^ tile)) tiles, joined_more mask tile tiles out)
]

-- what is done with a mask, where there is one, may be said in other words
said_of : (done said : ℕ → Option ℕ) → ((m : ℕ) → done m ≡ said m) → (mask : Option ℕ) → option_and_then done mask ≡ option_and_then said mask
said_of done said same None = refl
said_of done said same (Some m) = same m

tiles_joined : (mask : ℕ) (texts : List Text) → with_tiles mask texts ≡ option_and_then (joined mask) (tiles_written texts)
tiles_joined mask [] = grind arith
tiles_joined mask (text ∷ texts) =
    said_of (λ m. with_tiles m texts) (λ m. option_and_then (joined m) (tiles_written texts)) (λ m. tiles_joined m texts)
    (option_and_then (with_each mask) (tiles_named text)) ∙ next (tiles_named text) (tiles_written texts)
  where
    none : (more : Option ℕ) → option_and_then (λ m. option_and_then (joined m) None) more ≡ None
    none None = refl
    none (Some m) = refl

    all : (tiles others : List ℕ) → option_and_then (λ m. joined m others) (with_each mask tiles) ≡ joined mask (tiles ++ others)
    all tiles others =
        said_of (λ m. joined m others) (λ m. with_each m others) (λ m. sym (each_joined m others)) (with_each mask tiles)
        ∙ sym (each_more mask tiles others)
        ∙ each_joined mask (tiles ++ others)

    next : (tiles others : Option (List ℕ)) → option_and_then (λ m. option_and_then (joined m) others) (option_and_then (with_each mask) tiles)
        ≡ option_and_then (joined mask) (option_and_then (λ ts. option_map (λ os. ts ++ os) others) tiles)
    next None others = refl
    next (Some tiles) None = none (with_each mask tiles)
    next (Some tiles) (Some others) = all tiles others

-- no tile is in the mask 0
none_in_zero : (tiles : List ℕ) → are_out 0 tiles ≡ true
none_in_zero [] = refl
none_in_zero (tile ∷ tiles) = grind (arith, nat_tests, bit_at-zero tile, none_in_zero tiles)

joined_zero : (tiles : Option (List ℕ)) → option_and_then (joined 0) tiles ≡ option_and_then
    (λ ts. if are_apart ts then Some (mask_of_tiles ts) else None) tiles
joined_zero None = refl
joined_zero (Some tiles) = grind (arith, none_in_zero tiles)

-- what is read from the mask 0 on
pub tiles_read : (text : Text) → with_tiles 0 (slice_split is_comma text) ≡ tiles_mask text
tiles_read text = tiles_joined 0 (slice_split is_comma text) ∙ joined_zero (tiles_written (slice_split is_comma text))
