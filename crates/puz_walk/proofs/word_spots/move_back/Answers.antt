use Rattle.std.proofs.Common.{◌*◌, length, length-set, take, ◌∙◌, ap}
use Rattle.puz_walk.proofs.BlankLemmas.{from_room, next_is, numbers_next, step_is, to_room}
use Rattle.puz_walk.proofs.StartLemmas.{sum_said}
use Rattle.puz_walk.proofs.word_spots.move_back.Goals as goal

-- the blank's old cell is one of the 25 of a spot
pub exchange-requires-clause-blank : goal.exchange-requires-clause-blank
exchange-requires-clause-blank c =
    let moves = c.requires.slides in
    from_room c.args.bundle.now c.args.slide.mv moves.0 moves.1 c.args.slide.to moves.2 c.args.spot.now moves.4

-- and so is its new cell
pub exchange-requires-clause-to : goal.exchange-requires-clause-to
exchange-requires-clause-to c =
    let moves = c.requires.slides in
    to_room c.args.bundle.now c.args.slide.mv moves.0 moves.1 c.args.slide.to moves.2

-- a spot has room for 25 numbers
pub exchange-requires-clause-room : goal.exchange-requires-clause-room
exchange-requires-clause-room c = c.requires.slides.4.space

-- the members that are to be put back still look up the board before the move back
pub put_back-requires-clause-step : goal.put_back-requires-clause-step
put_back-requires-clause-step c =
    let moves = c.requires.slides in (
      moves.0,
      moves.1,
      c.args.spot.now.blank,
      c.args.slide.to,
      step_is c.args.bundle.now c.args.slide.mv moves.0 moves.1 c.args.slide.to moves.2 c.args.spot.now moves.4 c.args.slide.tile moves.3,
      λ set low. (moves.4.kept.each set low).are,
      moves.5.held,
    )

-- after the blank's move back, the board that a step came from is at the spot, with what the step has kept
pub returns : goal.returns
returns c b next slides tile is past =
    let v = c.args.bundle.now in
    let slide = c.args.slide in
    let spot = c.args.spot.now in
    let step = step_is v slide.mv b next slide.to slides spot is slide.tile tile in
    let kept = c.put_back.ensures.all b next spot.blank slide.to step (λ set low. (is.kept.each set low).are) past.held in
    let good = next_is v slide.mv b next slide.to slides in
    let said = sum_said v next c.args.past.now.sums c.sets-sets.ensures.bundle good past.sums in
    record {
      board = good;
      space = ap length c.exchange.ensures ∙ length-set _ _ _ ∙ length-set _ _ _ ∙ is.space;
      numbers = ap (take (v.side * v.side)) c.exchange.ensures ∙ numbers_next v slide.mv b next slide.to slides spot is slide.tile tile;
      blank_is = slides.to_is;
      kept = record {
        room = record { sums_room = past.sums.room; places = c.put_back.ensures.room };
        each = λ set low. record { says = said set low; are = kept set low };
      };
    }
