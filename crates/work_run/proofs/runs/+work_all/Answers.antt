use Rattle.std.proofs.Common.{◌≡◌, ◌∙◌, ap, sym, subst}
use Rattle.std.proofs.lemmas.List.Elements.{AllZip-push}
use Rattle.work_run.specs.Work.{IsDone}
use Rattle.work_run.specs.PassesAtWork.{AreDone}
use Rattle.work_run.proofs.runs.+work_all.Goals as goal

-- each pass has done its work, that of the caller's thread and that of each other thread
pub returns-clause-done : goal.returns-clause-done
returns-clause-done g t c =
    let bad = g.J.Job.bad in
    let begins = g.J.Job.begins in
    let jobs = g.J.Job.jobs in
    let promise = c.in_ok-worker.worker.promise in
    let job : promise.job.value ≡ c.args.task.now.job.now = ap (λ p. p.job.value) c.in_ok-worker.ensures.ok ∙ c.of.ensures in
    let pass : promise.pass.value ≡ c.in-Some.pass = ap (λ p. p.pass.value) c.in_ok-worker.ensures.ok ∙ c.of-2.ensures in
    let one : IsDone (bad c.args.task.now.job.now) (begins c.args.task.now.job.now) (jobs c.args.task.now.job.now) c.in-Some.pass c.join-pass.result =
    subst (λ v. IsDone (bad v) (begins v) (jobs v) c.in-Some.pass c.join-pass.result) job
    (subst (λ p. IsDone (bad promise.job.value) (begins promise.job.value) (jobs promise.job.value) p c.join-pass.result) pass c.join-pass.ensures) in
    subst (λ l. AreDone (bad c.args.task.now.job.now) (begins c.args.task.now.job.now)
    (jobs c.args.task.now.job.now) l c.push_reserved-2.new.self.items) (sym c.in-Some.ensures.items)
    (subst (AreDone (bad c.args.task.now.job.now) (begins c.args.task.now.job.now) (jobs c.args.task.now.job.now) _) (sym c.push_reserved-2.ensures.items)
    (AllZip-push _ _ _ _ _ c.in_ok-passes.ensures.done one))
