use Rattle.std.proofs.Common.{vec_len}
use Rattle.work_run.proofs.runs.+work_all.Given as goal

-- how many passes are left to put to work gets less with each thread
abbrev pub decreases-work_all : goal.decreases-work_all
decreases-work_all g l = vec_len l.passes
