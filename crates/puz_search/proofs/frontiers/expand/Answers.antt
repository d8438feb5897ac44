use Rattle.std.proofs.Common.{inl, refl}
use Rattle.puz_search.specs.Nodes.{node_counts}
use Rattle.puz_search.proofs.CountLemmas.{adds_none}
use Rattle.puz_search.proofs.NodeLemmas.{node_closed}
use Rattle.puz_search.proofs.frontiers.expand.Goals as goal

-- for a node outside the part no node is added, and no board is expanded
pub returns-then-is_outside : goal.returns-then-is_outside
returns-then-is_outside c =
    let s = c.args.task.now in
    let node = c.args.node in
    adds_none s (node_counts s node) c.args.next.now.items (node_closed s node (inl (c.if-is_outside.ensures.outside refl)))
