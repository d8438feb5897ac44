use Rattle.tab_runs.specs.SetRows.{IsColumn}
use Rattle.tab_runs.proofs.set_rows.fill_column.Given as goal

-- the column is filled in the rows of the cells before this one
abbrev pub invariant-loop-x : goal.invariant-loop-x
invariant-loop-x l = IsColumn l.listed l.column.last l.column.free l.column.first_place l.regions l.x l.initial.set_rows l.set_rows
