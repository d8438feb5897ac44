use Rattle.std.proofs.Common.{◌-◌, length}
use Rattle.work_run.proofs.WorkLemmas.{IsAtWork}
use Rattle.work_run.proofs.worker.work.Given as goal

-- the pass of this worker goes on, and has settled all jobs that it drew
abbrev pub invariant-loop-number : goal.invariant-loop-number
invariant-loop-number g l = IsAtWork (g.J.Job.bad l.job) (g.J.Job.begins l.job) (g.J.Job.jobs l.job) l.book l.initial.pass.number l.pass

-- how many jobs the pass has not drawn gets less with each job
abbrev pub decreases-loop-number : goal.decreases-loop-number
decreases-loop-number g l = l.book.sizes.jobs - length l.pass.deeds.drawn
