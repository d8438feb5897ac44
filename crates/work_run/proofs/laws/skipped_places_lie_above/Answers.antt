use Rattle.work_run.proofs.LawLemmas.{LieAbove-seen, IsReportedOf-or-above}
use Rattle.work_run.proofs.laws.skipped_places_lie_above.Goals as goal

-- all bad places of a job that was skipped are above the closing answer
pub returns-clause-skipped : goal.returns-clause-skipped
returns-clause-skipped g c d answer most job skipped =
    LieAbove-seen (g.J.Job.bad c.args.job.now) (g.J.Job.begins c.args.job.now) d answer job most skipped.1

-- the least bad place of a drawn job was reported, or all its bad places are above the answer
pub returns-clause-drawn : goal.returns-clause-drawn
returns-clause-drawn g c d worked answer most job drawn =
    IsReportedOf-or-above (g.J.Job.bad c.args.job.now) (g.J.Job.begins c.args.job.now) (g.J.Job.jobs c.args.job.now) d answer job worked most drawn
