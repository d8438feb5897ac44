use Rattle.std.proofs.Common.{length}
use Rattle.tab_file.specs.Tables.{slot_count}
use Rattle.tab_runs.specs.SetRows.{AreKindsUpTo, AreRowsUpTo}
use Rattle.tab_runs.proofs.HeldLemmas.{IsHeld, IsRunOfSet}
use Rattle.tab_runs.proofs.set_rows.fill_rows.Given as goal

-- the rows and kinds of the cells before this one are filled, and the next free cell's placement is held
abbrev pub invariant-loop-last : goal.invariant-loop-last
invariant-loop-last l = record {
  of_set : IsRunOfSet l.pattern l.cells l.set l.count l.width l.run l.first;
  held : IsHeld l.pattern l.cells l.run l.first l.last l.free l.placement;
  rows : AreRowsUpTo l.pattern.side (length l.pattern.tiles) l.cells l.last l.set_rows;
  kinds : AreKindsUpTo l.pattern.side (slot_count l.pattern) l.cells l.last l.kinds;
}
