use Rattle.std.proofs.Common.{◌-◌, ◌≤◌, take}
use Rattle.puz_search.specs.Frontiers.{all_counts}
use Rattle.puz_search.specs.Prefixes.{Count}
use Rattle.puz_search.proofs.outcomes.settle.Given as goal

-- the searches below the nodes so far fail, with as many boards as were taken from the budget
abbrev pub invariant-loop-at : goal.invariant-loop-at
invariant-loop-at l = record {
  left : l.left ≤ l.budget;
  done : (count : Count) → all_counts l.task (take l.at l.nodes) count (l.budget - l.left);
}
