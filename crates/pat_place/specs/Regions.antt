-- Regions: the free cells that paths of free cells reach.
use Rattle.std.specs.Prelude.{◌≡◌, ◌≢◌, ℕ, zero, suc, ◌*◌, ◌<◌, ◌≤◌, ◌↔◌, ◌⊎◌, List, length, slice_index}
use Rattle.std.specs.Int.{bit_at}
pub use Rattle.puz_board.specs.Paths.{Reaches, here, onward}
use Rattle.pat_place.specs.Placements.{IsFree}

-- a path of free cells leads from one cell to another
abbrev pub Joins : ℕ → List ℕ → ℕ → ℕ → Type 0
Joins n cells = Reaches n (IsFree n cells)

-- a free cell that is the least of its region
abbrev pub IsLeader : ℕ → List ℕ → ℕ → Type 0
IsLeader n cells c = IsFree n cells c × ((d : ℕ) → Joins n cells c d → c ≤ d)

-- how many numbers below m have the property
abbrev pub IsCount : (ℕ → Type 0) → ℕ → ℕ → Type 0
IsCount Has zero j = j ≡ 0
IsCount Has (suc m) j = (Has m × (i : ℕ) × (j ≡ suc i) × IsCount Has m i) ⊎ ((¬ Has m) × IsCount Has m j)

-- the slot of a free cell: the number of leaders below its region's leader
pub record IsSlot (n : ℕ) (cells : List ℕ) (c j : ℕ) : Type 0 where
  pub free : IsFree n cells c
  pub leader : ℕ
  pub joined : Joins n cells c leader
  pub is_leader : IsLeader n cells leader
  pub below : IsCount (IsLeader n cells) leader j

-- a mask for each region, in the order of their least cells: each mask has the cells of one slot
pub record AreRegions (n : ℕ) (cells masks : List ℕ) : Type 0 where
  pub each : (j c : ℕ) → j < length masks → (bit_at (slice_index masks j) c ≡ 1) ↔ IsSlot n cells c j
  pub all : IsCount (IsLeader n cells) (n * n) (length masks)

-- mask number j is the first of these that has the cell
pub record IsFirstMaskWith (masks : List ℕ) (cell j : ℕ) : Type 0 where
  pub low : j < length masks
  pub here : bit_at (slice_index masks j) cell ≡ 1
  pub before : (i : ℕ) → i < j → bit_at (slice_index masks i) cell ≢ 1
