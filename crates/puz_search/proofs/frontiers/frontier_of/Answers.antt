use Rattle.std.proofs.Common.{◌+◌, ◌∷◌, ◌++◌, [], refl, ◌∙◌, ap, arith}
use Rattle.puz_search.proofs.FrontierLemmas.{frontier_first, frontier_next}
use Rattle.puz_search.proofs.frontiers.frontier_of.Goals as goal

-- the first board's node by itself is a frontier, with no board expanded
pub loop-init : goal.loop-init
loop-init c =
    record {
      frontier = frontier_first c.args.task.now c.args.first (record { nodes = c.push.new.self; expanded = 0 }) c.requires.first c.requires.led
          (c.in_ok-push.ensures.items ∙ ap (λ xs. xs ++ c.args.first ∷ []) c.new-nodes.ensures.items) refl;
      small = omega arith;
    }

-- the next level of a frontier is a frontier again, with the boards of both levels expanded
pub loop-preserved : goal.loop-preserved
loop-preserved c =
    record {
      frontier = frontier_next c.args.task.now (record { nodes = c.loop.nodes; expanded = c.loop.expanded })
          (record { nodes = c.in_ok-next.next.nodes; expanded = c.loop.expanded + c.in_ok-next.next.expanded }) c.in_ok-next.next.expanded refl
          c.loop.invariant.frontier c.in_ok-next.ensures.next;
      small = let few = c.in_ok-next.ensures.few in let small = c.loop.invariant.small in omega arith;
    }
