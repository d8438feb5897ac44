use Rattle.std.proofs.Common.{◌≡◌, ◌∙◌, ◌<◌, ◌≤◌, ◌+◌, refl, sym, ap, subst, arith}
use Rattle.book_core.specs.Passes.{Deeds, with_end}
use Rattle.book_live.specs.Callers.{PassState}
use Rattle.work_run.specs.Work.{IsAbove, IsWorked}
use Rattle.work_run.proofs.WorkLemmas.{below-end, IsWorked-ended, IsAtWork-skipped, IsAtWork-good, IsAtWork-bad}
use Rattle.work_run.proofs.worker.work.Goals as goal

-- a bad place that is reported is small enough for a book
pub report-requires-clause-place : goal.report-requires-clause-place
report-requires-clause-place g c =
    let begins = g.J.Job.begins c.args.job.now in
    let jobs = g.J.Job.jobs c.args.job.now in
    let laws = g.met.J.Job in
    let drawn : c.in-Some.number < jobs = omega (arith, c.in-Some.ensures.job, c.requires.jobs) in
    let below : begins (c.in-Some.number + 1) ≤ begins jobs = below-end begins jobs (laws.rises c.args.job.now) (c.in-Some.number + 1) (omega arith) in
    let place : c.in-Some-run.place < begins (c.in-Some.number + 1) = c.in-Some-run.ensures.1 in
    omega (arith, laws.small c.args.job.now)

-- skipping a job that begins above the least place seen leaves the pass at work
pub loop-number-preserved-then-is_above : goal.loop-number-preserved-then-is_above
loop-number-preserved-then-is_above g c =
    IsAtWork-skipped _ _ _ _ _ c.loop-number.pass c.claim.new.pass c.look.new.pass c.in-Some.number c.look.result c.loop-number.invariant
    c.in-Some.ensures.drawn c.look.ensures.seen c.look.ensures.falls
    (subst (λ n. IsAbove n c.look.result) c.first.ensures (c.if-is_above.ensures.0 refl))

-- running a job and reporting its least bad place leaves the pass at work
pub loop-number-preserved-in-Some-run : goal.loop-number-preserved-in-Some-run
loop-number-preserved-in-Some-run g c =
    let begins = g.J.Job.begins c.args.job.now in
    let jobs = g.J.Job.jobs c.args.job.now in
    let drawn : c.in-Some.number < jobs = omega (arith, c.in-Some.ensures.job, c.requires.jobs) in
    let below : begins (c.in-Some.number + 1) ≤ begins jobs = below-end begins jobs (g.met.J.Job.rises c.args.job.now) (c.in-Some.number + 1) (omega arith) in
    let place : c.in-Some-run.place < begins (c.in-Some.number + 1) = c.in-Some-run.ensures.1 in
    IsAtWork-bad _ _ _ _ _ c.loop-number.pass c.claim.new.pass c.look.new.pass c.in-Some.number c.look.result c.loop-number.invariant
    c.in-Some.ensures.drawn c.look.ensures.seen c.look.ensures.falls
    c.report.new.pass c.in-Some-run.place c.report.ensures.reported c.in-Some-run.ensures (omega arith)

-- running a job that finds no bad place leaves the pass at work
pub loop-number-preserved : goal.loop-number-preserved
loop-number-preserved g c =
    IsAtWork-good _ _ _ _ _ c.loop-number.pass c.claim.new.pass c.look.new.pass c.in-Some.number c.look.result c.loop-number.invariant
    c.in-Some.ensures.drawn c.look.ensures.seen c.look.ensures.falls c.in_default-run.ensures

-- where no job is left to draw, the pass has ended and its work is done
pub returns : goal.returns
returns g c =
    let begins = g.J.Job.begins c.args.job.now in
    let jobs = g.J.Job.jobs c.args.job.now in
    let bad = g.J.Job.bad c.args.job.now in
    let i = c.loop-number.invariant in
    let last = c.in_default.ensures.ended in
    let is : c.claim.new.pass.deeds ≡ with_end c.loop-number.pass.deeds = ap (λ (p : PassState). p.deeds) last in
    record {
      book = ap (λ (p : PassState). p.book) last ∙ i.book ∙ sym c.requires.pass.0;
      number = ap (λ (p : PassState). p.number) last ∙ i.number;
      ended = ap (λ (d : Deeds). d.ended) is;
      worked = subst (IsWorked bad begins jobs) (sym is) (IsWorked-ended bad begins jobs c.loop-number.pass.deeds i.worked);
    }
