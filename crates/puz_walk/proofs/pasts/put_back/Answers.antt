use Rattle.std.proofs.Common.{◌+◌, ◌<◌, length, length-set, sym, ◌∙◌, ap, subst, arith}
use Rattle.std.specs.Prelude.{slice_index_or}
use Rattle.puz_walk.specs.Pasts.{IsHeldOf}
use Rattle.puz_walk.specs.WordSpots.{HasPlaces}
use Rattle.puz_walk.proofs.HeldLemmas.{put_half}
use Rattle.puz_walk.proofs.JudgeLemmas.{IsHalf, half_more}
use Rattle.puz_walk.proofs.pasts.put_back.Goals as goal
use Rattle.puz_walk.proofs.pasts.put_back.Goals.{then-set-lt-MOST_HELD, else-set-lt-MOST_HELD}

-- a set that is to follow the move back still keeps what its members look up of the board before it
pub follow-requires-clause-step : goal.follow-requires-clause-step
follow-requires-clause-step c =
    let step = c.requires.step in
    let set = c.loop-set.set in
    let half = c.loop-set.invariant.half step.0 step.1 step.2 step.3 step.4 step.5 step.6 in
    (step.0, step.1, step.2, step.3, step.4, half.left set (omega arith) (let more = c.loop-set-test.true in let count = c.requires.sets in omega arith))

-- where one more set is put back, or its members follow, one more set is as on the board before the step
pub loop-set-preserved : goal.loop-set-preserved
loop-set-preserved c =
    let v = c.args.bundle.now in
    let set = c.loop-set.set in
    let kept = c.loop-set.kept in
    let room = c.loop-set.invariant.room in
    let there : set < length v.sets = (let more = c.loop-set-test.true in let count = c.requires.sets in omega arith) in
    let told = c.sets-sets.ensures in
    elim c.if-set-lt-MOST_HELD.branch [
      | then-set-lt-MOST_HELD w ↦
          let two : set < 2 = w.if-set-lt-MOST_HELD.true in
          let is = w.put.ensures in
          record {
            room = subst HasPlaces (sym w.kept-is) (record {
              indexes_room = ap length is.indexes ∙ length-set _ _ _ ∙ room.indexes_room;
              words_room = ap length is.words ∙ length-set _ _ _ ∙ room.words_room;
            });
            half = λ b next from to step all held.
                subst (IsHalf v b next (set + 1)) (sym w.kept-is)
                (put_half v told.bundle told.words.0 told.words.1 set there c.args.slide.tile next kept _ room
                (subst (λ i. IsHeldOf v next set c.args.slide.tile (slice_index_or c.args.held.now i _)) (sym w.from.ensures) (held.each set _ two there))
                c.args.slide.mv b from to step (c.loop-set.invariant.half b next from to step all held) _ is.indexes is.words);
          }
      | else-set-lt-MOST_HELD w ↦ record {
        room = subst HasPlaces (sym w.kept-is) w.follow.ensures.room;
        half = λ b next from to step all held.
            let half = c.loop-set.invariant.half b next from to step all held in
            subst (IsHalf v b next (set + 1)) (sym w.kept-is)
            (half_more v b next set kept _ half (w.follow.ensures.each b next from to step (half.left set (omega arith) there))
            (λ other x low ne are. w.follow.ensures.others other x low ne are));
      }
    ]

-- after all sets, what is kept is that of the board before the step
pub returns-clause-all : goal.returns-clause-all
returns-clause-all c b next from to step kept held set low =
    let done = c.loop-set-test.false in
    let count = c.requires.sets in
    (c.loop-set.invariant.half b next from to step kept held).done set (omega arith) low
