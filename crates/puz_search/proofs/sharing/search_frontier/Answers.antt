use Rattle.std.proofs.Common.{arith, sym, subst, ◌∙◌}
use Rattle.puz_search.specs.Frontiers.{AreOutcomesOf}
use Rattle.puz_search.proofs.FrontierLemmas.{refuted_below, spent_before, spent_below}
use Rattle.puz_search.proofs.sharing.search_frontier.Goals as goal

-- the outcomes that the workers share are those of the frontier's nodes
pub settle-requires-clause-outcomes : goal.settle-requires-clause-outcomes
settle-requires-clause-outcomes g c =
    let s = c.args.task.now in
    let ran : AreOutcomesOf s c.as_slice.result.now c.in_ok-outcomes.outcomes.items = c.in_ok-outcomes.ensures in
    subst (λ outcomes. AreOutcomesOf s c.as_slice-2.result.now outcomes) (sym c.as_slice-3.ensures.value)
    (subst (λ nodes. AreOutcomesOf s nodes c.in_ok-outcomes.outcomes.items) (c.as_slice.ensures.value ∙ sym c.as_slice-2.ensures.value) ran)

-- where more boards were expanded on the way to the nodes than the budget, it is spent
pub returns-in_default : goal.returns-in_default
returns-in_default g c =
    let over = c.in_default.ensures in
    spent_before c.args.task.now c.in_ok-frontier.frontier c.in_ok-frontier.ensures c.args.budget (omega (arith, over))

-- where the searches below all nodes are refuted, the whole search is
pub returns-in-Refuted : goal.returns-in-Refuted
returns-in-Refuted g c =
    let frontier = c.in_ok-frontier.frontier in
    let low = c.in-Some.ensures.0 in
    let same = c.in-Some.ensures.1 in
    refuted_below c.args.task.now frontier c.in_ok-frontier.ensures c.args.budget c.in-Some.left c.in-Refuted.boards (omega (arith, low, same))
    (rw c.as_slice-2.ensures.value at c.in-Refuted.ensures)

-- where the budget ends below the nodes, it is spent
pub returns : goal.returns
returns g c =
    let frontier = c.in_ok-frontier.frontier in
    let low = c.in-Some.ensures.0 in
    let same = c.in-Some.ensures.1 in
    spent_below c.args.task.now frontier c.in_ok-frontier.ensures c.args.budget c.in-Some.left (omega (arith, low, same))
    (rw c.as_slice-2.ensures.value at c.in-Spent.ensures)
