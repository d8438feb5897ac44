use Rattle.std.proofs.Common.{◌-◌, ◌≤◌, length}
use Rattle.tab_lanes.specs.Floods.{IsAStepAway}
use Rattle.tab_lanes.specs.FloodSteps.{AreGrownBetween}
use Rattle.tab_lanes.proofs.floods.step_by_lanes.Given as goal

-- the masks from the first place up to here have taken a step, and here is at most the end
abbrev pub invariant-lanes : goal.invariant-lanes
invariant-lanes g l = AreGrownBetween (IsAStepAway l.side) l.fn.masks l.free l.from l.at l.masks × (l.from ≤ l.at) × (l.at ≤ length l.masks)

-- how many masks have still to take a step
abbrev pub decreases-lanes : goal.decreases-lanes
decreases-lanes g l = length l.masks - l.at
