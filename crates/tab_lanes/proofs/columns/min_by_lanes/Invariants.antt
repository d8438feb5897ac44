use Rattle.std.proofs.Common.{◌-◌, ◌≤◌, length}
use Rattle.tab_lanes.specs.Columns.{AreLesserBetween}
use Rattle.tab_lanes.proofs.columns.min_by_lanes.Given as goal

-- the places from the first one up to here have the lesser bytes, and here is at most the end
abbrev pub invariant-lanes : goal.invariant-lanes
invariant-lanes g l = AreLesserBetween l.fn.least l.others l.from l.at l.least × (l.from ≤ l.at) × (l.at ≤ length l.least)

-- how many places of the column are still to take the lesser byte
abbrev pub decreases-lanes : goal.decreases-lanes
decreases-lanes g l = length l.least - l.at
