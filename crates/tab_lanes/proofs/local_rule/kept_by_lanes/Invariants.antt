use Rattle.std.proofs.Common.{◌-◌, ◌≤◌, length}
use Rattle.tab_lanes.specs.LocalRule.{KeepRuleBetween}
use Rattle.tab_lanes.proofs.local_rule.kept_by_lanes.Given as goal

-- the entries from the first place up to here keep the rule, and here is at most the end
abbrev pub invariant-lanes : goal.invariant-lanes
invariant-lanes g l = KeepRuleBetween l.entries l.mins l.kinds l.from l.at × (l.from ≤ l.at) × (l.at ≤ length l.entries)

-- how many entries are still to be tested
abbrev pub decreases-lanes : goal.decreases-lanes
decreases-lanes g l = length l.entries - l.at
