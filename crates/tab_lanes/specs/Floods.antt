-- Masks of cells that grow over free cells, in columns of masks. A column of free masks has the free cells for each place.
use Rattle.std.specs.Prelude.{◌≡◌, ℕ, ◌-◌, ◌*◌, ◌^◌, ◌<◌, ◌≤◌, ◌⊎◌, List, length, slice_index}
use Rattle.std.specs.Int.{bit_at}
use Rattle.puz_board.specs.Cells.{Adjacent}
use Rattle.puz_board.specs.Masks.{IsMaskOf}
use Rattle.puz_board.specs.Paths.{Reaches}

-- ---- one mask of a board of side n

-- the cell is of the mask, or it is free and adjacent to one of the mask's cells
abbrev pub IsAStepAway : ℕ → ℕ → ℕ → ℕ → Type 0
IsAStepAway n free mask d = (bit_at mask d ≡ 1) ⊎ ((bit_at free d ≡ 1) × (c : ℕ) × (bit_at mask c ≡ 1) × Adjacent n c d)

-- a path of free cells reaches the cell from one of the mask's cells
abbrev pub IsReached : ℕ → ℕ → ℕ → ℕ → Type 0
IsReached n free mask d = (c : ℕ) × (bit_at mask c ≡ 1) × Reaches n (λ x. bit_at free x ≡ 1) c d

-- the free cells are cells of the board, and those of the mask are free
pub record MayGrow (n free mask : ℕ) : Type 0 where
  pub on_board : free < 2 ^ (n * n)
  pub inside : (c : ℕ) → bit_at mask c ≡ 1 → bit_at free c ≡ 1

-- ---- columns

-- each mask from this place on may grow
pub record MayGrowFrom (n from : ℕ) (masks free : List ℕ) : Type 0 where
  pub lengths : length masks ≡ length free
  pub each : (i : ℕ) → from ≤ i → i < length masks → MayGrow n (slice_index free i) (slice_index masks i)

-- all masks may grow
abbrev pub AllMayGrow : ℕ → List ℕ → List ℕ → Type 0
AllMayGrow n masks free = MayGrowFrom n 0 masks free

-- each mask has become the cells with the property
pub record AreGrown (Has : ℕ → ℕ → ℕ → Type 0) (masks free new : List ℕ) : Type 0 where
  pub len : length new ≡ length masks
  pub each : (i : ℕ) → i < length masks → IsMaskOf (slice_index new i) (Has (slice_index free i) (slice_index masks i))

-- ---- for a step of a mask
