use Rattle.tab_columns.specs.Columns.{AreFree}
use Rattle.tab_columns.proofs.floods.free_column.Given as goal

-- the rows before this one have their free cells, and those behind none
abbrev pub invariant-loop-row : goal.invariant-loop-row
invariant-loop-row l = AreFree l.placements l.row l.free
