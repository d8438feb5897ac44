-- Masks that are written as tiles.
use Rattle.std.specs.Prelude.{◌≡◌, ℕ, ◌<◌, true, List, ◌++◌, codes, decimal, length, map}
use Rattle.std.specs.List.{AllByRecursion, join_with_byte}
use Rattle.clap.specs.Walk.{Text}
use Rattle.pdb_words.specs.Masks.{are_apart}

-- numbers from 0 to 31, one at least, none twice
pub record AreTiles (tiles : List ℕ) : Type 0 where
  pub some : 0 < length tiles
  pub small : AllByRecursion (λ tile. tile < 32) tiles
  pub apart : are_apart tiles ≡ true

-- the word `tiles:` and these numbers in decimal, with commas between them; the byte of a comma is 44
abbrev pub tiles_word : List ℕ → Text
tiles_word tiles = codes "tiles:" ++ join_with_byte 44 (map decimal tiles)
