use Rattle.std.proofs.Common.{◌∷◌, [], ◌+◌, cond, sym, ap, length-append, arith}
use Rattle.puz_search.proofs.FrontierLemmas.{add_none, level_more}
use Rattle.puz_search.proofs.frontiers.next_level.Goals as goal

-- with a node that was expanded, the added nodes are those for one node more, and one board more was expanded
pub loop-node-preserved-then-branch : goal.loop-node-preserved-then-branch
loop-node-preserved-then-branch c =
    let far = c.loop-node.invariant in
    let few = far.few in
    let one = length-append c.loop-node.yielded (c.in-Some.node ∷ []) in
    record {
      next = tt;
      finite = tt;
      adds = level_more c.args.task.now c.loop-node.yielded c.in-Some.node c.in_ok-expand.field-0 c.loop-node.expanded (c.loop-node.expanded + 1)
          (ap (λ b. c.loop-node.expanded + cond b 1 0) (sym c.if-branch.true))
          c.loop-node.next.items c.expand.new.next.items far.adds c.in_ok-expand.ensures;
      few = omega arith;
    }

-- with a node that wasn't expanded, the added nodes are those for one node more, with as many boards expanded
pub loop-node-preserved : goal.loop-node-preserved
loop-node-preserved c =
    let far = c.loop-node.invariant in
    let few = far.few in
    let one = length-append c.loop-node.yielded (c.in-Some.node ∷ []) in
    record {
      next = tt;
      finite = tt;
      adds = level_more c.args.task.now c.loop-node.yielded c.in-Some.node c.in_ok-expand.field-0 c.loop-node.expanded c.loop-node.expanded
          (add_none c.loop-node.expanded c.in_ok-expand.field-0 c.if-branch.false)
          c.loop-node.next.items c.expand.new.next.items far.adds c.in_ok-expand.ensures;
      few = omega arith;
    }
