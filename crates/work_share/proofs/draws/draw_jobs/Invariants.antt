use Rattle.std.proofs.Common.{◌≤◌, ◌≡◌, vec_len, vec_capacity}
use Rattle.work_share.specs.Shares.{AreDone}
use Rattle.work_share.proofs.draws.draw_jobs.Given as goal

-- what was done so far comes from jobs of the task, and there is room for all of them
abbrev pub invariant-loop : goal.invariant-loop
invariant-loop g l = record {
  done : AreDone (g.T.Task.gives l.task) (g.T.Task.jobs l.task) l.done.items;
  room : vec_len l.done ≤ l.counter;
  all : vec_capacity l.done ≡ l.jobs;
}
