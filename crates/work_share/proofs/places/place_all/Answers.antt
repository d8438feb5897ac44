use Rattle.std.proofs.Common.{◌<◌, length, sym, subst, arith}
use Rattle.std.proofs.lemmas.Iterator.Adapters.{YieldsList-from_vec}
use Rattle.std.proofs.lemmas.Iterator.Consumers.{YieldsList-turn}
use Rattle.work_share.specs.Shares.{ArePlaced}
use Rattle.work_share.proofs.PlaceLemmas.{done_turn, placed_more}
use Rattle.work_share.proofs.places.place_all.Goals as goal

-- a job that a worker has run has a place
pub place-requires : goal.place-requires
place-requires g c =
    let turn = YieldsList-turn (YieldsList-from_vec c.args.part.items (cc) (cc)) c.loop-done.yielded c.loop-done.done-iterator c.loop-done.yielded_by
    c.next.result c.next.new.self c.in-Some.done c.in-Some.is c.next.ensures.steps in
    let run = done_turn (g.T.Task.gives c.args.task.now) (g.T.Task.jobs c.args.task.now) c.args.part.items _ c.in-Some.done c.requires.part turn in
    omega arith

-- what a worker's job gave is put in the place of that job
pub loop-done-preserved : goal.loop-done-preserved
loop-done-preserved g c =
    let turn = YieldsList-turn (YieldsList-from_vec c.args.part.items (cc) (cc)) c.loop-done.yielded c.loop-done.done-iterator c.loop-done.yielded_by
    c.next.result c.next.new.self c.in-Some.done c.in-Some.is c.next.ensures.steps in
    let run = done_turn (g.T.Task.gives c.args.task.now) (g.T.Task.jobs c.args.task.now) c.args.part.items _ c.in-Some.done c.requires.part turn in
    let low : c.in-Some.done.job < length c.loop-done.places = omega arith in
    record {
      next = tt;
      finite = tt;
      placed = subst (ArePlaced (g.T.Task.gives c.args.task.now)) (sym c.place.ensures)
          (placed_more (g.T.Task.gives c.args.task.now) c.loop-done.places c.in-Some.done.job c.in-Some.done.outcome low run.1 c.loop-done.invariant.placed);
    }
