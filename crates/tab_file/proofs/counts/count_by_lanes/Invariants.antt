use Rattle.std.proofs.Common.{◌≡◌, ◌-◌, ◌≤◌, eqb, length, take}
use Rattle.std.specs.Prelude.{count_by}
use Rattle.tab_file.proofs.counts.count_by_lanes.Given as goal

-- the count is that of the equal bytes up to here, and here is at most the end
abbrev pub invariant-lanes : goal.invariant-lanes
invariant-lanes g l = (l.count ≡ count_by (λ x. eqb x l.byte) (take l.at l.bytes)) × (l.at ≤ length l.bytes)

-- how many bytes are still to be compared
abbrev pub decreases-lanes : goal.decreases-lanes
decreases-lanes g l = length l.bytes - l.at
