-- A run of a table, with what is known of it and what is kept for its set of cells.
use Rattle.std.specs.Prelude.{◌≡◌, ℕ, ◌+◌, ◌*◌, ◌<◌, ◌≤◌, ◌^◌, true, List, length}
use Rattle.puz_board.specs.Masks.{IsMaskOf}
use Rattle.pat_place.specs.Patterns.{has}
use Rattle.tab_rule.specs.Entries.{IsGoalNumber}
use Rattle.tab_file.specs.Tables.{Table, placement_count, slot_count}
use Rattle.tab_runs.specs.declared.runs.LastTile.{LastTile}
use Rattle.tab_runs.specs.declared.runs.Run.{Run}
use Rattle.tab_runs.specs.declared.runs.RunCells.{RunCells}
use Rattle.tab_runs.specs.declared.runs.RunKinds.{RunKinds}
use Rattle.tab_runs.specs.Kinds.{TellRegions}
use Rattle.tab_runs.specs.Parts.{IsBeforeRun}
use Rattle.tab_runs.specs.RunPlaces.{AreFreeBelow, AreRunEntries, IsFirstRank, IsRun, run_length}
use Rattle.tab_runs.specs.RowTables.{AreRowsOf, rows_for}

-- the run is one of the table, and what is kept with it is that of its cells
pub record IsRunOf (t : Table) (r : Run) : Type 0 where
  pub run : IsRun t.pattern r.cells.now
  pub bits : r.set < 2 ^ 32
  pub set : IsMaskOf r.set (λ c. has r.cells.now c ≡ true)
  pub row_table : r.row_table.now ≡ rows_for t.pattern
  pub rows : AreRowsOf t.pattern.side (length t.pattern.tiles) r.set r.rows.now
  pub own : AreRunEntries t r.cells.now r.own.now

-- the last tile of such a run, and how many free cells are below each cell
pub record IsLastTileOf (t : Table) (l : LastTile) : Type 0 where
  pub run : IsRunOf t l.run
  pub below : AreFreeBelow l.run.cells.now (t.pattern.side * t.pattern.side) l.below

-- the cells are those of a run of the table, with their set and the rank of the run's first placement
pub record AreCellsOfRun (t : Table) (r : RunCells) : Type 0 where
  pub run : IsRun t.pattern r.cells.now
  pub bits : r.set < 2 ^ 32
  pub set : IsMaskOf r.set (λ c. has r.cells.now c ≡ true)
  pub first : IsFirstRank t.pattern.side r.cells.now r.first

-- the ranks from one up to another are some of this run's, and placements of the table have them
pub record AreRanksOf (t : Table) (r : RunCells) (from to : ℕ) : Type 0 where
  pub low : r.first ≤ from
  pub some : from < to
  pub high : to ≤ r.first + run_length t.pattern.side r.cells.now
  pub count : to ≤ placement_count t.pattern

-- which slots of the run with these cells have a region, how many entries are before the run's, and the goal's number
pub record TellKindsOf (t : Table) (p : List ℕ) (k : RunKinds) : Type 0 where
  pub told : TellRegions t.pattern.side (slot_count t.pattern) p k.told.now
  pub size : length k.told.now ≡ run_length t.pattern.side p * slot_count t.pattern
  pub before : IsBeforeRun t p k.before
  pub goal : IsGoalNumber t.pattern k.goal
