use Rattle.std.proofs.Common.{◌-◌}
use Rattle.tab_runs.specs.SetRows.{AreMarked}
use Rattle.tab_runs.proofs.set_rows.mark.Given as goal

-- the bytes from the first place up to this one are marked
abbrev pub invariant-loop-place : goal.invariant-loop-place
invariant-loop-place l = AreMarked l.at (l.place - l.at) l.initial.kinds l.kinds
