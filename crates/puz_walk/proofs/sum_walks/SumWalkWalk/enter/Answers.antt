use Rattle.std.proofs.Common.{◌≡◌, ℕ, ◌+◌, ◌-◌, ◌<◌, ◌≤◌, Option, Some, None, refl, length, sym, ◌∙◌, ap, subst, arith}
use Rattle.std.specs.Prelude.{IfNone}
use Rattle.puz_board.specs.Boards.{blank, moved, slid}
use Rattle.puz_board.specs.Cells.{Adjacent, step_of}
use Rattle.puz_board.specs.declared.moves.Move.{Move}
use Rattle.puz_walk.specs.Cuts.{GoesBeyond}
use Rattle.puz_walk.specs.StoredSumWalks.{sum_walk_shown}
use Rattle.puz_walk.specs.SumSteps.{IsSumStep}
use Rattle.puz_walk.specs.Tallies.{AreLow, AreTallied, AreTold, IsSlideOf}
use Rattle.puz_walk.specs.Walks.{LeadsNowhere, ShownWalk}
use Rattle.puz_walk.proofs.SumWalkLemmas.{beyond_nowhere, leads, low_more, margin_fits, near, near_back, none_nowhere, position_back, slides}
use Rattle.puz_walk.proofs.SumWalkLemmas.{some_moves, step_next, stored_again, stored_next}
use Rattle.puz_walk.proofs.sum_walks.SumWalkWalk.enter.Goals as goal

-- where a move of what is shown leads, it leads from what is stored
on : (s w : ShownWalk) → s ≡ w → (move : Move) → (to : Option ℕ) → to ≡ step_of w.bundle.side (blank w.board) move
    → to ≡ step_of s.bundle.side (blank s.board) move
on s w is move to e = e ∙ ap (λ x. step_of x.bundle.side (blank x.board) move) (sym is)

none_so : {X : Type 0} (P : Type 0) → P → (o : Option X) → IfNone o P
none_so P h None = h
none_so P h (Some x) = tt

-- a move that would leave the board changes nothing of the walk over sums, and leads nowhere
pub returns-in_err-to-clause-none : goal.returns-in_err-to-clause-none
returns-in_err-to-clause-none c =
    none_so _ (
      refl,
      subst (λ w. LeadsNowhere w c.args.mv) c.self.view_is
          (none_nowhere c.self.inside c.self.invariant c.args.mv (on _ _ c.self.view_is c.args.mv _ c.in_err-to.ensures)),
    ) c.from_residual.result

-- on entering, the blank may slide to the cell of the move, which is beside its own
pub slide-tile-requires : goal.slide-tile-requires
slide-tile-requires c = near c.self.inside c.self.invariant c.args.mv c.in_ok-to.to (on _ _ c.self.view_is c.args.mv _ c.in_ok-to.ensures)

-- on entering, the margin of a walk over sums can be taken from its bound
pub overflow_sub-limit : goal.overflow_sub-limit
overflow_sub-limit c = margin_fits c.self.inside c.self.invariant

-- on entering, the sets are judged after a slide from the board of which the tally is
pub judge-requires-clause-moved : goal.judge-requires-clause-moved
judge-requires-clause-moved c =
    let s = c.self.inside in
    let to = c.in_ok-to.to in
    let slide = slides s c.self.invariant c.args.mv to (on _ _ c.self.view_is c.args.mv _ c.in_ok-to.ensures) c.slide-tile.result c.slide-tile.ensures.tile in
    let at = sym c.slide-tile.ensures.board in (
      s.position.board,
      subst (λ p. IsSlideOf p.bundle s.position.board p.board c.slide-tile.result) at slide,
      subst (λ p. AreTallied p.bundle s.position.board s.tally) at c.self.invariant.tally,
    )

-- on entering, the tally may exchange its entries: the owners' new ones are there, and each sum fits into a byte
pub exchange-requires : goal.exchange-requires
exchange-requires c =
    let s = c.self.inside in
    let to = c.in_ok-to.to in
    let next = c.slide-tile.new.self in
    let slide = slides s c.self.invariant c.args.mv to (on _ _ c.self.view_is c.args.mv _ c.in_ok-to.ensures) c.slide-tile.result c.slide-tile.ensures.tile in
    let at = sym c.slide-tile.ensures.board in
    let same = sym c.bundle.ensures in (
      s.position.board,
      next.board,
      subst (λ v. IsSlideOf v s.position.board next.board c.slide-tile.result) same
          (subst (λ p. IsSlideOf p.bundle s.position.board p.board c.slide-tile.result) at slide),
      subst (λ v. AreTallied v s.position.board s.tally) same (subst (λ p. AreTallied p.bundle s.position.board s.tally) at c.self.invariant.tally),
      subst (λ v. AreTold v next.board c.slide-tile.result c.judge.new.told) same c.in_default.ensures.told,
      subst (λ v. AreLow v next.board 256) same (low_more next.bundle next.board (s.bound - s.margin) 256 (omega arith) c.in_default.ensures.low),
    )

-- on entering, one move can be taken from the bound of a walk over sums
pub overflow_sub-self : goal.overflow_sub-self
overflow_sub-self c = some_moves c.self.inside c.self.invariant

-- after a move that no set cuts off, the walk over sums is well stored at the next board
pub invariant_of-self-2 : goal.invariant_of-self-2
invariant_of-self-2 c =
    let s = c.self.inside in
    let to = c.in_ok-to.to in
    let next = c.slide-tile.new.self in
    let slide = slides s c.self.invariant c.args.mv to (on _ _ c.self.view_is c.args.mv _ c.in_ok-to.ensures) c.slide-tile.result c.slide-tile.ensures.tile in
    let at = c.slide-tile.ensures.board in
    let same = c.bundle.ensures ∙ ap (λ p. p.bundle) at in
    let told = subst (λ p. AreTold p.bundle p.board c.slide-tile.result c.judge.new.told) at c.in_default.ensures.told in
    let low = subst (λ p. AreLow p.bundle p.board (s.bound - s.margin)) at c.in_default.ensures.low in
    let v = s.position.bundle in
    let b = s.position.board in
    let after = slid b to in
    let tally = c.exchange.ensures.tally b after
    (subst (λ u. IsSlideOf u b after c.slide-tile.result) (sym same) slide)
    (subst (λ u. AreTallied u b s.tally) (sym same) c.self.invariant.tally)
    (subst (λ u. AreTold u after c.slide-tile.result c.judge.new.told) (sym same) told)
    (subst (λ u. AreLow u after 256) (sym same) (low_more v after (s.bound - s.margin) 256 (omega arith) low)) in
    stored_next s c.self.invariant c.args.mv to (on _ _ c.self.view_is c.args.mv _ c.in_ok-to.ensures) next at c.exchange.new.tally
    (subst (λ u. AreTallied u after c.exchange.new.tally) same tally) low

-- where a set cuts the next board off, the blank may slide back to the cell from which it came
pub slide-requires : goal.slide-requires
slide-requires c =
    let s = c.self.inside in
    let to = c.in_ok-to.to in
    subst (λ p. Adjacent p.bundle.side (blank p.board) c.blank-from.result) (sym c.slide-tile.ensures.board)
    (subst (Adjacent s.position.bundle.side (blank (slid s.position.board to))) (sym c.blank-from.ensures.cell)
    (near_back s c.self.invariant c.args.mv to (on _ _ c.self.view_is c.args.mv _ c.in_ok-to.ensures)))

-- where a set cuts the next board off, the walk over sums is well stored at its old board, with that set to ask first
pub invariant_of-self : goal.invariant_of-self
invariant_of-self c =
    let s = c.self.inside in
    let to = c.in_ok-to.to in
    let back = position_back s c.self.invariant c.args.mv to
    (on _ _ c.self.view_is c.args.mv _ c.in_ok-to.ensures) c.slide-tile.new.self c.slide.new.self c.blank-from.result c.slide-tile.ensures.board
    c.blank-from.ensures.cell c.slide.ensures.board in
    stored_again s c.self.invariant c.slide.new.self back c.in-Some.set
    (subst (λ v. c.in-Some.set < length v.sets) (ap (λ p. p.bundle) c.slide-tile.ensures.board) c.in-Some.ensures.set)

-- a move that no set cuts off leads a walk over sums to the next board, with one move less, by the step that is answered
pub returns-clause-some : goal.returns-clause-some
returns-clause-some c =
    let s = c.self.inside in
    let to = c.in_ok-to.to in
    let v = s.position.bundle in
    let b = s.position.board in
    let after = slid b to in
    let next = c.slide-tile.new.self in
    let slide = slides s c.self.invariant c.args.mv to (on _ _ c.self.view_is c.args.mv _ c.in_ok-to.ensures) c.slide-tile.result c.slide-tile.ensures.tile in
    let at = c.slide-tile.ensures.board in
    let same = c.bundle.ensures ∙ ap (λ p. p.bundle) at in
    let told = subst (λ p. AreTold p.bundle p.board c.slide-tile.result c.judge.new.told) at c.in_default.ensures.told in
    let low = subst (λ p. AreLow p.bundle p.board (s.bound - s.margin)) at c.in_default.ensures.low in
    let before = c.exchange.ensures.told b after
    (subst (λ u. IsSlideOf u b after c.slide-tile.result) (sym same) slide)
    (subst (λ u. AreTallied u b s.tally) (sym same) c.self.invariant.tally)
    (subst (λ u. AreTold u after c.slide-tile.result c.judge.new.told) (sym same) told)
    (subst (λ u. AreLow u after 256) (sym same) (low_more v after (s.bound - s.margin) 256 (omega arith) low)) in
    let small : s.bound ≤ 255 = omega arith in (
      ap (λ w. moved w.board c.args.mv) (sym c.self.view_is)
          ∙ leads s c.self.invariant c.args.mv to (on _ _ c.self.view_is c.args.mv _ c.in_ok-to.ensures) ∙ ap (λ p. Some p.board) (sym at),
      ap (λ p. p.bundle) at ∙ ap (λ w. w.bundle) c.self.view_is,
      (let some = some_moves s c.self.invariant in let e : s.bound - 1 + 1 ≡ s.bound = omega arith in e ∙ ap (λ w. w.bound) c.self.view_is),
      subst (λ w. IsSumStep w (sum_walk_shown (record {
        position = next;
        ways = s.ways;
        tally = c.exchange.new.tally;
        bound = s.bound - 1;
        margin = s.margin;
      })) (record { from = c.blank-from.result; told = c.exchange.new.told })) c.self.view_is
          (step_next s c.self.invariant c.args.mv to (on _ _ c.self.view_is c.args.mv _ c.in_ok-to.ensures) small next at c.exchange.new.tally
          c.slide-tile.result c.blank-from.result c.exchange.new.told c.slide-tile.ensures.tile c.blank-from.ensures.cell
          (subst (λ u. AreTold u b c.slide-tile.result c.exchange.new.told) same before)),
    )

-- where a set cuts the next board off, what is seen of the walk over sums is as before, and the move leads nowhere
pub returns-in-Some-clause-none : goal.returns-in-Some-clause-none
returns-in-Some-clause-none c =
    let s = c.self.inside in
    let to = c.in_ok-to.to in
    let back = position_back s c.self.invariant c.args.mv to
    (on _ _ c.self.view_is c.args.mv _ c.in_ok-to.ensures) c.slide-tile.new.self c.slide.new.self c.blank-from.result c.slide-tile.ensures.board
    c.blank-from.ensures.cell c.slide.ensures.board in
    let goes = subst (λ p. GoesBeyond p.bundle p.board (s.bound - s.margin)) c.slide-tile.ensures.board c.in-Some.ensures.cut in (
      ap {B = ShownWalk} (λ p. record { bundle = p.bundle; board = p.board; bound = s.bound }) back ∙ c.self.view_is,
      subst (λ w. LeadsNowhere w c.args.mv) c.self.view_is
          (beyond_nowhere s c.self.invariant c.args.mv to (on _ _ c.self.view_is c.args.mv _ c.in_ok-to.ensures) goes),
    )
