use Rattle.tab_runs.specs.Beside.{AreBesideTo}
use Rattle.tab_runs.proofs.beside.beside_all.Given as goal

-- the masks of the cells before this one are right
abbrev pub invariant-loop-cell : goal.invariant-loop-cell
invariant-loop-cell l = AreBesideTo l.side l.cell l.masks
