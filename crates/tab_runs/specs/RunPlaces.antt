-- Where the placements and the entries of a run are.
use Rattle.std.specs.Prelude.{◌≡◌, ℕ, ◌+◌, ◌-◌, ◌*◌, ◌<◌, List, length, slice_index}
use Rattle.std.specs.List.{AllByRecursion}
use Rattle.pat_place.specs.Patterns.{ShownPattern}
use Rattle.pat_place.specs.Placements.{IsApart, IsFree}
use Rattle.pat_place.specs.Ranks.{IsRank}
use Rattle.tab_file.specs.Tables.{Table, entry_at, slot_count}
use Rattle.tab_runs.specs.Runs.{free_below, with_last}

-- a cell of the board for each tile but the last, no cell for two
pub record IsRun (p : ShownPattern) (cells : List ℕ) : Type 0 where
  pub size : length cells + 1 ≡ length p.tiles
  pub inside : AllByRecursion (λ c. c < p.side * p.side) cells
  pub apart : IsApart cells

-- for each of the first `count` cells how many free cells are below it
abbrev pub AreFreeBelow : List ℕ → ℕ → List ℕ → Type 0
AreFreeBelow p count below = (c : ℕ) → c < count → slice_index below c ≡ free_below p c

-- how many placements a run has
abbrev pub run_length : ℕ → List ℕ → ℕ
run_length n p = n * n - length p

-- the most entries that a run has, on side 5: 7 slots for each of 20 placements
abbrev pub most_run_entries : ℕ
most_run_entries = 140

-- the ranks of a run stand side by side, in the order of the last tile's cells
pub record IsFirstRank (n : ℕ) (p : List ℕ) (first : ℕ) : Type 0 where
  pub each : (c : ℕ) → IsFree n p c → IsRank n (with_last p c) (first + free_below p c)

-- the bytes are one byte and, behind it, the entries of the run
pub record AreRunEntries (t : Table) (p bytes : List ℕ) : Type 0 where
  pub first : ℕ
  pub is_first : IsFirstRank t.pattern.side p first
  pub size : length bytes ≡ 1 + run_length t.pattern.side p * slot_count t.pattern
  pub each : (c j : ℕ) → IsFree t.pattern.side p c → j < slot_count t.pattern →
      slice_index bytes (1 + free_below p c * slot_count t.pattern + j) ≡ entry_at t (first + free_below p c) j
