use Rattle.std.proofs.Common.{sym, ◌∙◌, ap, subst}
use Rattle.puz_walk.specs.SumSteps.{IsSumStep}
use Rattle.puz_walk.specs.Tallies.{AreLow, AreTallied, AreTold, IsSlideOf}
use Rattle.puz_walk.proofs.SumWalkLemmas.{back_is, back_low, back_near, back_slides, back_told, stored_back}
use Rattle.puz_walk.proofs.sum_walks.SumWalkWalk.leave.Goals as goal

-- on leaving, the blank may slide to the cell that the step over sums has kept
pub slide-tile-requires : goal.slide-tile-requires
slide-tile-requires c =
    let from = subst (λ x. IsSumStep c.requires.0 x c.args.step.now) (sym c.self.view_is) c.requires.1 in
    back_near c.self.inside c.self.invariant c.requires.0 c.args.step.now from

-- on leaving, the tally may exchange its entries for those that the step over sums has kept
pub exchange-requires : goal.exchange-requires
exchange-requires c =
    let s = c.self.inside in
    let w = c.requires.0 in
    let step = c.args.step.now in
    let from = subst (λ x. IsSumStep w x step) (sym c.self.view_is) c.requires.1 in
    let tile = c.slide-tile.result in
    let same = sym (c.bundle.ensures ∙ ap (λ p. p.bundle) c.slide-tile.ensures.board) in (
      s.position.board,
      w.board,
      subst (λ v. IsSlideOf v s.position.board w.board tile) same (back_slides s c.self.invariant w step from tile c.slide-tile.ensures.tile),
      subst (λ v. AreTallied v s.position.board s.tally) same c.self.invariant.tally,
      subst (λ v. AreTold v w.board tile step.told) same (back_told s c.self.invariant w step from tile c.slide-tile.ensures.tile),
      subst (λ v. AreLow v w.board 256) same (back_low s c.self.invariant w step from),
    )

-- after leaving a step, the walk over sums is well stored at the board before
pub invariant_of-self : goal.invariant_of-self
invariant_of-self c =
    let s = c.self.inside in
    let w = c.requires.0 in
    let step = c.args.step.now in
    let from = subst (λ x. IsSumStep w x step) (sym c.self.view_is) c.requires.1 in
    let tile = c.slide-tile.result in
    let same = sym (c.bundle.ensures ∙ ap (λ p. p.bundle) c.slide-tile.ensures.board) in
    let tally = c.exchange.ensures.tally s.position.board w.board
    (subst (λ v. IsSlideOf v s.position.board w.board tile) same (back_slides s c.self.invariant w step from tile c.slide-tile.ensures.tile))
    (subst (λ v. AreTallied v s.position.board s.tally) same c.self.invariant.tally)
    (subst (λ v. AreTold v w.board tile step.told) same (back_told s c.self.invariant w step from tile c.slide-tile.ensures.tile))
    (subst (λ v. AreLow v w.board 256) same (back_low s c.self.invariant w step from)) in
    stored_back s c.self.invariant w step from c.slide-tile.new.self c.slide-tile.ensures.board c.exchange.new.tally
    (subst (λ v. AreTallied v w.board c.exchange.new.tally) (sym same) tally)

-- leaving a step gives back the walk over sums from which it led
pub returns : goal.returns
returns c w step_from =
    let s = c.self.inside in
    let step = c.args.step.now in
    let from = subst (λ x. IsSumStep w x step) (sym c.self.view_is) step_from in
    back_is s c.self.invariant w step from c.slide-tile.new.self c.slide-tile.ensures.board c.exchange.new.tally
