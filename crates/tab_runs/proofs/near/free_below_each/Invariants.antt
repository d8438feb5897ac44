use Rattle.std.proofs.Common.{◌≡◌, ◌≤◌, length}
use Rattle.tab_runs.specs.RunPlaces.{AreFreeBelow}
use Rattle.tab_runs.specs.Runs.{free_below}
use Rattle.tab_runs.proofs.near.free_below_each.Given as goal

-- as many free cells are counted as are below this cell, and all cells before it have theirs
abbrev pub invariant-loop-cell : goal.invariant-loop-cell
invariant-loop-cell l = record {
  size : length l.below ≡ 25;
  few : l.free ≤ l.cell;
  count : l.free ≡ free_below l.run.cells.now l.cell;
  filled : AreFreeBelow l.run.cells.now l.cell l.below;
}
