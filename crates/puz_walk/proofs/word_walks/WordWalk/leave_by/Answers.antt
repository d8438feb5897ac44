use Rattle.std.proofs.Common.{◌<◌, sym, subst, arith}
use Rattle.puz_walk.specs.WordSpots.{IsSlideTo}
use Rattle.puz_walk.specs.WordSteps.{IsWordStepFrom}
use Rattle.puz_walk.proofs.BlankLemmas.{tile_read, to_room}
use Rattle.puz_walk.proofs.WordWalkLemmas.{back_is, board, bound_fits, slides_back, stored_back, past_before}
use Rattle.puz_walk.proofs.word_walks.WordWalk.leave_by.Goals as goal

-- on leaving, the tile is read in a cell that is one of the 25 of the spot
pub bounds-self-inside-from : goal.bounds-self-inside-from
bounds-self-inside-from c =
    let s = c.self.inside in
    let w = c.requires.step.0 in
    let step = c.args.step.now in
    let from = subst (λ x. IsWordStepFrom w x step) (sym c.self.view_is) c.requires.step.1 in
    subst (λ k. k < 25) (sym c.from.ensures)
    (to_room s.bundle.now _ (board s c.self.invariant) w.board step.from (slides_back s c.self.invariant w step from))

-- on leaving, the blank may move back by the reverse move, to what the step has kept
pub move_back-requires-clause-slides : goal.move_back-requires-clause-slides
move_back-requires-clause-slides c =
    let s = c.self.inside in
    let v = s.bundle.now in
    let w = c.requires.step.0 in
    let step = c.args.step.now in
    let from = subst (λ x. IsWordStepFrom w x step) (sym c.self.view_is) c.requires.step.1 in
    let b = board s c.self.invariant in
    let back = slides_back s c.self.invariant w step from in (
      b,
      w.board,
      subst (λ mv. IsSlideTo v mv b w.board step.from) (sym c.reverse.ensures.value) back,
      tile_read v _ b w.board step.from back s.spot c.self.invariant.spot c.from.result c.from.ensures,
      c.self.invariant.spot,
      past_before s c.self.invariant w step from _
          (tile_read v _ b w.board step.from back s.spot c.self.invariant.spot c.from.result c.from.ensures),
    )

-- on leaving, one move can be added to the bound of a walk by edge words
pub overflow_add-self : goal.overflow_add-self
overflow_add-self c =
    let from = subst (λ x. IsWordStepFrom c.requires.step.0 x c.args.step.now) (sym c.self.view_is) c.requires.step.1 in
    let fits = bound_fits c.self.inside c.self.invariant c.requires.step.0 c.args.step.now from in
    omega arith

-- after leaving a step, the walk by edge words is well stored at the board before
pub invariant_of-self : goal.invariant_of-self
invariant_of-self c =
    let s = c.self.inside in
    let v = s.bundle.now in
    let w = c.requires.step.0 in
    let step = c.args.step.now in
    let from = subst (λ x. IsWordStepFrom w x step) (sym c.self.view_is) c.requires.step.1 in
    let b = board s c.self.invariant in
    let back = slides_back s c.self.invariant w step from in
    stored_back s c.self.invariant w step from c.move_back.new.spot
    (c.move_back.ensures b w.board (subst (λ mv. IsSlideTo v mv b w.board step.from) (sym c.reverse.ensures.value) back)
    (tile_read v _ b w.board step.from back s.spot c.self.invariant.spot c.from.result c.from.ensures) c.self.invariant.spot
    (past_before s c.self.invariant w step from _
    (tile_read v _ b w.board step.from back s.spot c.self.invariant.spot c.from.result c.from.ensures)))

-- leaving a step gives back the walk by edge words from which it led
pub returns : goal.returns
returns c w step_from =
    let s = c.self.inside in
    let v = s.bundle.now in
    let step = c.args.step.now in
    let from = subst (λ x. IsWordStepFrom w x step) (sym c.self.view_is) step_from in
    let b = board s c.self.invariant in
    let back = slides_back s c.self.invariant w step from in
    back_is s c.self.invariant w step from c.move_back.new.spot
    (c.move_back.ensures b w.board (subst (λ mv. IsSlideTo v mv b w.board step.from) (sym c.reverse.ensures.value) back)
    (tile_read v _ b w.board step.from back s.spot c.self.invariant.spot c.from.result c.from.ensures) c.self.invariant.spot
    (past_before s c.self.invariant w step from _
    (tile_read v _ b w.board step.from back s.spot c.self.invariant.spot c.from.result c.from.ensures)))
