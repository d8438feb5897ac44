-- How a pattern is stored: bit t of its mask is set for tile t.
use Rattle.std.specs.Prelude.{◌≡◌, ℕ, ◌+◌, ◌^◌, ◌<◌, List, [], ◌∷◌}
use Rattle.pat_place.specs.declared.patterns.Pattern.TheInside.{Inside}
use Rattle.puz_board.specs.Masks.{numbers_of}
use Rattle.pat_place.specs.Patterns.{ShownPattern, IsPattern}

-- the mask of different numbers
abbrev pub mask_of : List ℕ → ℕ
mask_of [] = 0
mask_of (x ∷ xs) = 2 ^ x + mask_of xs

-- the pattern with this side and the tiles of this mask
abbrev pub pattern_shown : Inside → ShownPattern
pattern_shown p = record { side = p.side; tiles = numbers_of p.mask }

-- these are the fields of a pattern
pub record IsStoredPattern (p : Inside) : Type 0 where
  pub pattern : IsPattern (pattern_shown p)
  pub bits : p.mask < 2 ^ 32
  pub of_tiles : mask_of (numbers_of p.mask) ≡ p.mask

-- the fields of the pattern with this side and these tiles
abbrev pub stored_pattern_of : ShownPattern → Inside
stored_pattern_of p = record { side = p.side; mask = mask_of p.tiles }

-- the tiles give the fields back
pub stored_pattern_of-shown : (p : Inside) → IsStoredPattern p → stored_pattern_of (pattern_shown p) ≡ p
stored_pattern_of-shown p kept = λ i. record { side = p.side; mask = kept.of_tiles i }
