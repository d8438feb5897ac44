use Rattle.std.proofs.Common.{◌*◌, ◌≤◌}
use Rattle.puz_search.specs.Frontiers.{IsFrontier}
use Rattle.puz_search.proofs.frontiers.frontier_of.Given as goal

-- the nodes are a frontier of the search, and at most 4,096 boards were expanded for each level
abbrev pub invariant-loop : goal.invariant-loop
invariant-loop l = record {
  frontier : IsFrontier l.task (record { nodes = l.nodes; expanded = l.expanded });
  small : l.expanded ≤ 4096 * l.counter;
}
