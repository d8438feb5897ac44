use Rattle.std.proofs.Common.{arith}
use Rattle.puz_search.specs.Prefixes.{at_least}
use Rattle.puz_search.proofs.outcomes.settle_node.Goals as goal

-- where the search below a node fails with more boards than the budget, it is spent
pub returns-in-Refuted-2 : goal.returns-in-Refuted-2
returns-in-Refuted-2 c =
    let more = c.if-boards-budget.false in
    let counts = rw c.in-Refuted.is at c.requires.outcome in
    (c.in-Refuted.boards, counts at_least, omega arith)
