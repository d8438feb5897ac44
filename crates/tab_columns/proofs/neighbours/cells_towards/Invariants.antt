use Rattle.std.proofs.Common.{◌≡◌, ℕ, ◌<◌, length, Some}
use Rattle.std.specs.Prelude.{slice_get}
use Rattle.puz_board.specs.Cells.{step_of}
use Rattle.tab_columns.proofs.neighbours.cells_towards.Given as goal

-- each cell before this one has the cell beside it, or none
abbrev pub invariant-loop-cell : goal.invariant-loop-cell
invariant-loop-cell l = record {
  len : length l.beside ≡ 25;
  each : (c : ℕ) → c < l.cell → slice_get l.beside c ≡ Some (step_of l.side c l.mv);
}
