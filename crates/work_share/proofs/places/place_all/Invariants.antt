use Rattle.work_share.specs.Shares.{ArePlaced}
use Rattle.work_share.proofs.places.place_all.Given as goal

-- after so many jobs were placed, what is in a place was given by the job of its number
abbrev pub invariant-loop-done : goal.invariant-loop-done
invariant-loop-done g l = record {
  next : (goal.iterator-loop-done g).can_next l.done-iterator;
  finite : (goal.iterator-loop-done g).is_finite l.done-iterator;
  placed : ArePlaced (g.T.Task.gives l.task) l.places;
}
