-- Columns of a block: a number for each slot of each of its placements, in the order of the entries.
use Rattle.std.specs.Prelude.{◌≡◌, ◌≢◌, ℕ, ◌+◌, ◌*◌, ◌^◌, ◌<◌, ◌≤◌, List, Some, length, slice_get, slice_index}
use Rattle.std.specs.Int.{bit_at}
use Rattle.puz_board.specs.Masks.{IsMaskOf}
use Rattle.puz_board.specs.Paths.{Reaches}
use Rattle.pat_place.specs.Patterns.{ShownPattern}
use Rattle.pat_place.specs.Placements.{ShownPlacement, IsFree, IsPlacement}
use Rattle.pat_place.specs.Ranks.{IsRank}
use Rattle.tab_file.specs.EntryRules.{goal_slot, other_slot, without_region}
use Rattle.tab_file.specs.Tables.{Table, IsTable, slot_count}
use Rattle.tab_rule.specs.Blocks.{block_ranks}
use Rattle.tab_columns.specs.Moves.{IsRegion}

-- the most entries that a block has: 8 slots for each placement
abbrev pub most_entries : ℕ
most_entries = block_ranks * 8

-- the placements of a list are those of the pattern
abbrev pub AreOf : ShownPattern → List ShownPlacement → Type 0
AreOf p placements = (row : ℕ) (placement : ShownPlacement) → slice_get placements row ≡ Some placement → (placement.pattern ≡ p) × IsPlacement placement

-- and their ranks are this one and those behind it
abbrev pub HaveRanks : ShownPattern → ℕ → List ShownPlacement → Type 0
HaveRanks p first placements =
    (row : ℕ) (placement : ShownPlacement) → slice_get placements row ≡ Some placement → (placement.pattern ≡ p) × IsPlacement placement × IsRank p.side placement.cells (first + row)

-- each number of the column says this of its placement and slot, for so many of the placements
abbrev pub EachSlot : ShownPattern → List ShownPlacement → (List ℕ → ℕ → ℕ → Type 0) → ℕ → List ℕ → Type 0
EachSlot p placements Says count column =
    (row j : ℕ) (placement : ShownPlacement) → row < count → slice_get placements row ≡ Some placement → j < slot_count p →
    Says placement.cells j (slice_index column (row * slot_count p + j))

-- some placements of the table's pattern, no more than a block has, and a column with the mask of each slot's region
pub record AreColumnsOf (t : Table) (ps : List ShownPlacement) (masks : List ℕ) : Type 0 where
  pub table : IsTable t
  pub few : length ps ≤ block_ranks
  pub placements : AreOf t.pattern ps
  pub regions : EachSlot t.pattern ps (IsRegion t.pattern.side) (length ps) masks

-- ---- masks of cells, one for each placement

-- those of the first placements are their free cells, and behind them stand masks without cells
pub record AreFree (placements : List ShownPlacement) (count : ℕ) (column : List ℕ) : Type 0 where
  pub len : length column ≡ block_ranks
  pub each : (row : ℕ) (placement : ShownPlacement) → row < count → slice_get placements row ≡ Some placement →
      IsMaskOf (slice_index column row) (IsFree placement.pattern.side placement.cells) × (slice_index column row < 2 ^ (placement.pattern.side * placement.pattern.side))
  pub behind : (row : ℕ) → count ≤ row → row < block_ranks → slice_index column row ≡ 0

-- the mask of the least cell of a mask
pub record IsFirstCell (mask first : ℕ) : Type 0 where
  pub none : mask ≡ 0 → first ≡ 0
  pub inside : (c : ℕ) → bit_at first c ≡ 1 → bit_at mask c ≡ 1
  pub some : (seed : ℕ) → bit_at mask seed ≡ 1 → ((x : ℕ) → x < seed → bit_at mask x ≡ 0) → IsMaskOf first (λ c. c ≡ seed)

-- the free cells that the least cell of those that are left reaches
pub record IsFirstRegion (n free rest region : ℕ) : Type 0 where
  pub none : rest ≡ 0 → region ≡ 0
  pub some : (seed : ℕ) → bit_at rest seed ≡ 1 → ((x : ℕ) → x < seed → bit_at rest x ≡ 0) → IsMaskOf region (Reaches n (λ c. bit_at free c ≡ 1) seed)

-- ---- kinds

-- the kind of a slot, by the mask of its region, which is 0 for a slot without one, and whether it is the goal's
pub data IsKindByMask (mask : ℕ) (IsGoal : Type 0) (kind : ℕ) : Type 0 where
  no_region : mask ≡ 0 → kind ≡ without_region → IsKindByMask mask IsGoal kind
  goal : mask ≢ 0 → IsGoal → kind ≡ goal_slot → IsKindByMask mask IsGoal kind
  other : mask ≢ 0 → ¬ IsGoal → kind ≡ other_slot → IsKindByMask mask IsGoal kind
