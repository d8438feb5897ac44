-- Masks of the cells beside each cell.
use Rattle.std.specs.Prelude.{◌≡◌, ℕ, ◌*◌, ◌<◌, List, length, slice_index}
use Rattle.puz_board.specs.Cells.{Adjacent}
use Rattle.puz_board.specs.Masks.{IsMaskOf}

-- for each of the first `count` cells of side n the mask of the cells beside it, in a list of 25
pub record AreBesideTo (n count : ℕ) (masks : List ℕ) : Type 0 where
  pub size : length masks ≡ 25
  pub each : (c : ℕ) → c < count → IsMaskOf (slice_index masks c) (Adjacent n c)

-- the same for all cells
abbrev pub AreBesideAll : ℕ → List ℕ → Type 0
AreBesideAll n masks = AreBesideTo n (n * n) masks
