use Rattle.std.proofs.Common.{◌-◌, ◌≤◌, length}
use Rattle.tab_lanes.specs.Floods.{IsReached}
use Rattle.tab_lanes.specs.FloodSteps.{AreGrownBetween}
use Rattle.tab_lanes.proofs.floods.flood_by_lanes.Given as goal

-- the masks from the first place up to here are flooded, and here is at most the end
abbrev pub invariant-lanes : goal.invariant-lanes
invariant-lanes g l = AreGrownBetween (IsReached l.side) l.fn.masks l.free l.from l.at l.masks × (l.from ≤ l.at) × (l.at ≤ length l.masks)

-- how many masks are still to be flooded
abbrev pub decreases-lanes : goal.decreases-lanes
decreases-lanes g l = length l.masks - l.at
