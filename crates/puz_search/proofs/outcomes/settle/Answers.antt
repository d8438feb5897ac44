use Rattle.std.proofs.Common.{◌-◌, ◌<◌, length, take, sym, subst, arith}
use Rattle.std.specs.Prelude.{slice_index_or}
use Rattle.puz_search.specs.Frontiers.{IsOutcome, all_counts}
use Rattle.puz_search.specs.Prefixes.{at_least}
use Rattle.puz_search.specs.declared.outcomes.JobOutcome.TheVariants.{Refuted}
use Rattle.puz_search.proofs.FrontierLemmas.{push_at, settled_more, solved_in, spent_in}
use Rattle.puz_search.proofs.outcomes.settle.Goals as goal

-- the outcome that is taken for a node is how the search below it ended
pub settle_node-requires-clause-outcome : goal.settle_node-requires-clause-outcome
settle_node-requires-clause-outcome c =
    let node = c.index-nodes-at.result in
    let low : c.loop-at.at < length c.args.nodes.now = omega arith in
    subst (λ n. IsOutcome c.args.task.now n (slice_index_or c.args.outcomes.now c.loop-at.at (Refuted 0))) (sym c.index-nodes-at.is)
    (c.requires.outcomes.1 c.loop-at.at (Refuted 0) low node)

-- a solution found below one node is one of the first board, and not all nodes fail
pub returns-in-Solved : goal.returns-in-Solved
returns-in-Solved c =
    let low : c.loop-at.at < length c.args.nodes.now = omega arith in (
      c.in-Solved.ensures.0,
      solved_in c.args.task.now c.args.nodes.now c.loop-at.at c.index-nodes-at.result low c.index-nodes-at.is c.in-Solved.ensures.1,
    )

-- where the budget ends below a node, it is spent for all nodes
pub returns-in-Spent : goal.returns-in-Spent
returns-in-Spent c =
    let low : c.loop-at.at < length c.args.nodes.now = omega arith in
    spent_in c.args.task.now c.args.nodes.now c.loop-at.at c.index-nodes-at.result low c.index-nodes-at.is
    (c.args.budget - c.loop-at.left) c.loop-at.left c.args.budget (c.loop-at.invariant.done at_least) (omega arith)
    c.in-Spent.ensures.0 c.in-Spent.ensures.1 c.in-Spent.ensures.2

-- where one more node is refuted, the nodes so far fail with what was spent
pub loop-at-preserved : goal.loop-at-preserved
loop-at-preserved c =
    let s = c.args.task.now in
    let nodes = c.args.nodes.now in
    let at = c.loop-at.at in
    let boards = c.in-Refuted.boards in
    let low : at < length nodes = omega arith in
    let few = c.in-Refuted.ensures.1 in
    record {
      left = omega arith;
      done = λ count. subst (λ xs. all_counts s xs count (c.args.budget - (c.loop-at.left - boards))) (sym (push_at nodes at c.index-nodes-at.result low c.index-nodes-at.is))
          (settled_more s (take at nodes) c.index-nodes-at.result (c.args.budget - c.loop-at.left) boards
          (c.args.budget - (c.loop-at.left - boards)) c.loop-at.invariant.done c.in-Refuted.ensures.0 (omega arith) count);
    }
