use Rattle.std.proofs.Common.{◌≤◌, [], length}
use Rattle.puz_search.specs.Frontiers.{Adds, all_counts}
use Rattle.puz_search.proofs.frontiers.next_level.Given as goal

-- the added nodes are those for the nodes taken so far, and no more boards were expanded than these
abbrev pub invariant-loop-node : goal.invariant-loop-node
invariant-loop-node l = record {
  next : goal.iterator-loop-node.can_next l.node-iterator;
  finite : goal.iterator-loop-node.is_finite l.node-iterator;
  adds : Adds l.task (all_counts l.task l.yielded) l.expanded [] l.next.items;
  few : l.expanded ≤ length l.yielded;
}
