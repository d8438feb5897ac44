use Rattle.std.proofs.Common.{◌<◌, length, arith}
use Rattle.puz_walk.proofs.JudgeLemmas.{half_more}
use Rattle.puz_walk.proofs.word_spots.follow_sets.Goals as goal

-- a set that is to follow the move still keeps what its members look up of the board before it
pub follow-requires-clause-step : goal.follow-requires-clause-step
follow-requires-clause-step c =
    let step = c.requires.step in
    let set = c.loop-set.set in
    let half = c.loop-set.invariant.half step.0 step.1 step.2 step.3 step.4 step.5 in
    (step.0, step.1, step.2, step.3, step.4, half.left set (omega arith) (let more = c.loop-set-test.true in let count = c.requires.sets in omega arith))

-- where the members of one more set follow, one more set has followed the tile's move
pub loop-set-preserved : goal.loop-set-preserved
loop-set-preserved c = record {
  room = c.follow.ensures.room;
  half = λ b next from to step kept.
      let set = c.loop-set.set in
      let half = c.loop-set.invariant.half b next from to step kept in
      let low : set < length c.args.bundle.now.sets = (let more = c.loop-set-test.true in let count = c.requires.sets in omega arith) in
      half_more c.args.bundle.now b next set c.loop-set.kept c.follow.new.kept half
      (c.follow.ensures.each b next from to step (half.left set (omega arith) low))
      (λ other x there ne are. c.follow.ensures.others other x there ne are);
}

-- after all sets have followed the tile's move, what is kept is that of the next board
pub returns-clause-all : goal.returns-clause-all
returns-clause-all c b next from to step kept set low =
    let done = c.loop-set-test.false in
    let count = c.requires.sets in
    (c.loop-set.invariant.half b next from to step kept).done set (omega arith) low
