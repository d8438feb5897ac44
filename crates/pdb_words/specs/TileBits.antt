-- The tiles of a mask, read one after the other.
use Rattle.std.specs.Prelude.{ℕ, ◌^◌, ◌==◌, List, [], ◌∷◌, Option, Some, None, bit_or, if◌then◌else◌, option_and_then}
use Rattle.std.specs.Int.{bit_at}
use Rattle.clap.specs.Walk.{Text}
use Rattle.pdb_words.specs.Masks.{tiles_named}

-- the mask with one tile more, which it didn't have
abbrev pub with_tile : ℕ → ℕ → Option ℕ
with_tile mask tile = if bit_at mask tile == 1 then None else Some (bit_or mask (2 ^ tile))

-- the mask with each of these tiles, none of which it had
abbrev pub with_each : ℕ → List ℕ → Option ℕ
with_each mask [] = Some mask
with_each mask (tile ∷ tiles) = option_and_then (λ more. with_each more tiles) (with_tile mask tile)

-- the mask with all tiles that texts name
abbrev pub with_tiles : ℕ → List Text → Option ℕ
with_tiles mask [] = Some mask
with_tiles mask (text ∷ rest) = option_and_then (λ more. with_tiles more rest) (option_and_then (with_each mask) (tiles_named text))
