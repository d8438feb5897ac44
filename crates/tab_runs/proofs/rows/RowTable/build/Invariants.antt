use Rattle.tab_runs.specs.RowTables.{rows_for}
use Rattle.tab_runs.specs.StoredRows.{AreKeptSets}
use Rattle.tab_runs.proofs.rows.RowTable.build.Given as goal

-- what is kept for the sets so far says what it is to say of them
abbrev pub invariant-loop : goal.invariant-loop
invariant-loop l = AreKeptSets (rows_for l.pattern) l.kept
