use Rattle.std.proofs.Common.{◌-◌, ◌≤◌, length}
use Rattle.tab_file.proofs.GreatestLemmas.{AreGreatest}
use Rattle.tab_file.proofs.counts.greatest_by_lanes.Given as goal

-- the lanes have the greatest counts of the bytes up to here, and here is at most the end
abbrev pub invariant-lanes : goal.invariant-lanes
invariant-lanes g l = AreGreatest l.bytes l.at g.row.N l.lanes × (l.at ≤ length l.bytes)

-- how many bytes the lanes have still to take in
abbrev pub decreases-lanes : goal.decreases-lanes
decreases-lanes g l = length l.bytes - l.at
