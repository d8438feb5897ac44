use Rattle.std.proofs.Common.{◌≡◌, length, vec_capacity}
use Rattle.work_share.specs.Shares.{AreOutcomes, ArePlaced}
use Rattle.work_share.proofs.places.take_all.Given as goal

-- the outcomes of the first jobs are listed in order, and the places of the others are right
abbrev pub invariant-loop-job : goal.invariant-loop-job
invariant-loop-job g l = record {
  all : length l.places.items ≡ g.T.Task.jobs l.task;
  placed : ArePlaced (g.T.Task.gives l.task) l.places.items;
  room : vec_capacity l.outcomes ≡ l.jobs;
  gives : AreOutcomes (g.T.Task.gives l.task) l.job l.outcomes.items;
}
