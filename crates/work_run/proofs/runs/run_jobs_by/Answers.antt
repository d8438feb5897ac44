use Rattle.std.proofs.Common.{◌≡◌, ◌∙◌, subst, sym}
use Rattle.work_run.specs.Faults.{IsFault}
use Rattle.work_run.specs.Work.{IsWorked}
use Rattle.work_run.proofs.RunLemmas.{ArePasses-done, IsWorked-each, IsFault-least}
use Rattle.work_run.proofs.runs.run_jobs_by.Goals as goal

-- the passes that come back have ended and are those of the book, so it can be closed
pub close-requires : goal.close-requires
close-requires g c =
    let bad = g.J.Job.bad c.args.job.now in
    let begins = g.J.Job.begins c.args.job.now in
    let jobs = g.J.Job.jobs c.args.job.now in
    ArePasses-done bad begins jobs c.in_ok-book.book c.in_ok-book.passes.items c.in_ok-ended.ended.items c.in_ok-book.ensures.passes c.in_ok-ended.ensures.1

-- the closing answer of the book is the least bad place of all jobs
pub returns : goal.returns
returns g c =
    let bad = g.J.Job.bad c.args.job.now in
    let begins = g.J.Job.begins c.args.job.now in
    let jobs = g.J.Job.jobs c.args.job.now in
    let book = c.in_ok-book.book in
    let passes = c.in_ok-ended.ended.items in
    let count : book.sizes.jobs ≡ jobs = c.in_ok-book.ensures.sizes.0 ∙ c.count-jobs.ensures in
    let worked = IsWorked-each bad begins jobs c.in_ok-book.passes.items passes c.in_ok-ended.ensures.1 in
    let fault = IsFault-least bad begins book passes ((g.met.J.Job g.world.𝓛 g.world.𝓜 g.world.𝓡
    ((λ s x. x), (λ x. x), (λ x. x), (λ x. x))).from_zero c.args.job.now)
    (λ k p at. subst (λ n. IsWorked bad begins n p.deeds) (sym count) (worked k p at)) c.close.ensures.drawn c.close.result c.close.ensures.least
    c.close.ensures.seen in
    subst (λ n. IsFault bad (begins n) c.close.result) count fault
