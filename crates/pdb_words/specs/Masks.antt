-- The mask that a word writes: a number in decimal, `0x` and hexadecimal digits, or `tiles:` and the numbers of tiles.
use Rattle.std.specs.Prelude.{ℕ, zero, suc, ◌+◌, ◌-◌, ◌++◌, ◌^◌, ◌==◌, Bool, ◌&&◌, not, true, List, [], ◌∷◌, Option, Some, None, codes, decimal, drop, if◌then◌else◌, length, nat_eq, nat_le, nat_lt, option_and_then, option_map}
use Rattle.std.specs.Char.{digit_value}
use Rattle.std.specs.List.{after_first, before_first, list_all, list_any, position_or_len, slice_split, starts_with}
use Rattle.std.specs.Str.{bytes_eq}
use Rattle.std.specs.Str.Parse.{digits_value}
use Rattle.clap.specs.Walk.{Text}
use Rattle.pdb_words.specs.Numbers.{number_written}

-- the greatest mask: that of four bytes
abbrev pub most_mask : ℕ
most_mask = 4294967295

-- what stands behind this front of a text, where it begins with that
abbrev pub behind : Text → Text → Option Text
behind front text = if starts_with nat_eq text front then Some (drop (length front) text) else None

-- ---- 0x1e

-- hexadecimal digits alone, in lower or upper case, one at least
abbrev pub are_hexadecimal : Text → Bool
are_hexadecimal digits = nat_lt 0 (length digits) && list_all (λ digit. nat_lt (digit_value digit) 16) digits

-- the mask that they write
abbrev pub hexadecimal_mask : Text → Option ℕ
hexadecimal_mask digits =
    if are_hexadecimal digits && nat_le (digits_value 16 digits) most_mask then Some (digits_value 16 digits) else None

-- ---- tiles:1,2,3,4 and tiles:1-4

-- the number from 0 to 31 that a text writes in decimal, without a superfluous zero
abbrev pub tile_written : Text → Option ℕ
tile_written text = let n = digits_value 10 text in if nat_lt n 32 && bytes_eq text (decimal n) then Some n else None

-- so many numbers from one on
abbrev pub tiles_from : ℕ → ℕ → List ℕ
tiles_from first zero = []
tiles_from first (suc count) = first ∷ tiles_from (first + 1) count

-- those from one to a greater one
abbrev pub tiles_between : ℕ → ℕ → Option (List ℕ)
tiles_between first last = if nat_lt first last then Some (tiles_from first (last - first + 1)) else None

-- the byte of `-`
abbrev pub is_dash : ℕ → Bool
is_dash byte = byte == 45

-- the tiles that a text names: one, or all from one to a greater one, with a `-` between their numbers
abbrev pub tiles_named : Text → Option (List ℕ)
tiles_named text =
    if nat_lt (position_or_len is_dash text) (length text)
    then option_and_then (λ first. option_and_then (tiles_between first) (tile_written (after_first is_dash text))) (tile_written (before_first is_dash text))
    else option_map (λ tile. tile ∷ []) (tile_written text)

-- those that texts name
abbrev pub tiles_written : List Text → Option (List ℕ)
tiles_written [] = Some []
tiles_written (text ∷ rest) = option_and_then (λ tiles. option_map (λ others. tiles ++ others) (tiles_written rest)) (tiles_named text)

-- none of them comes twice
abbrev pub are_apart : List ℕ → Bool
are_apart [] = true
are_apart (tile ∷ tiles) = not (list_any (λ other. other == tile) tiles) && are_apart tiles

-- the mask of tiles: the sum of 2 ^ t over them
abbrev pub mask_of_tiles : List ℕ → ℕ
mask_of_tiles [] = 0
mask_of_tiles (tile ∷ tiles) = 2 ^ tile + mask_of_tiles tiles

-- the mask of the tiles that are named between commas, in any order, none twice; the byte of a comma is 44
abbrev pub tiles_mask : Text → Option ℕ
tiles_mask text = option_and_then (λ tiles. if are_apart tiles then Some (mask_of_tiles tiles) else None)
    (tiles_written (slice_split (λ byte. byte == 44) text))

-- ---- a mask in any form

-- the mask that is written behind the front, where a text begins with it, or else as the rest has it
abbrev pub masked_behind : Option Text → (Text → Option ℕ) → Option ℕ → Option ℕ
masked_behind None mask rest = rest
masked_behind (Some text) mask rest = mask text

-- the mask that a word writes
abbrev pub mask_written : Text → Option ℕ
mask_written word = masked_behind (behind (codes "tiles:") word) tiles_mask
    (masked_behind (behind (codes "0x") word) hexadecimal_mask (number_written 0 most_mask word))
