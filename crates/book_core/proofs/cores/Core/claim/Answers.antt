use Rattle.std.proofs.Common.{arith}
use Rattle.book_core.proofs.StepLemmas.{claim-drawn, claim-ended, ended-in_range}
use Rattle.book_core.proofs.cores.Core.claim.Goals as goal

-- after a claim that ends its pass, the numbers of the book are still in their ranges
pub invariant_of-self-else-job-self : goal.invariant_of-self-else-job-self
invariant_of-self-else-job-self c =
    rw (c.from.ensures, c.end.ensures)
    (ended-in_range _ c.args.pass c.index_mut-claimant.result.now (rw (← c.self.view_is) at c.requires)
    (rw c.from.ensures at c.index_mut-claimant.ensures.value) c.self.invariant _ (omega arith))

-- where the pass has drawn the job, the claim was the machine's step, with that job as its answer
pub returns-in_ok-draw-clause-ok : goal.returns-in_ok-draw-clause-ok
returns-in_ok-draw-clause-ok c =
    rw (← c.self.view_is, c.from.ensures, c.in_ok-draw.ensures.ok)
    (claim-drawn _ c.args.pass c.index_mut-claimant.result.now (rw (← c.self.view_is) at c.requires)
    (rw c.from.ensures at c.index_mut-claimant.ensures.value) (omega (arith, c.if-job-self.true)))

-- where no job was left and the pass has ended, the claim was the machine's step, with the end as its answer
pub returns-else-job-self-clause-ok : goal.returns-else-job-self-clause-ok
returns-else-job-self-clause-ok c =
    rw (← c.self.view_is, c.from.ensures, c.end.ensures)
    (claim-ended _ c.args.pass c.index_mut-claimant.result.now (rw (← c.self.view_is) at c.requires)
    (rw c.from.ensures at c.index_mut-claimant.ensures.value) (omega (arith, c.if-job-self.false)))
