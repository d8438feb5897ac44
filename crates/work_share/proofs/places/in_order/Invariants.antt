use Rattle.std.proofs.Common.{◌≡◌, length, vec_capacity}
use Rattle.work_share.specs.Shares.{ArePlaced}
use Rattle.work_share.proofs.places.in_order.Given as goal

-- so many places are made, with room for all jobs, and what is in one was given by its job
abbrev pub invariant-loop : goal.invariant-loop
invariant-loop g l = record {
  placed : ArePlaced (g.T.Task.gives l.task) l.places.items;
  room : vec_capacity l.places ≡ l.jobs;
  some : length l.places.items ≡ l.counter;
}

-- there is a place for each job, and what is in a place was given by its job
abbrev pub invariant-loop-part : goal.invariant-loop-part
invariant-loop-part g l = record {
  next : (goal.iterator-loop-part g).can_next l.part-iterator;
  finite : (goal.iterator-loop-part g).is_finite l.part-iterator;
  placed : ArePlaced (g.T.Task.gives l.task) l.places.items;
  all : length l.places.items ≡ l.jobs;
}
