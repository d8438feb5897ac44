use Rattle.std.proofs.Common.{◌≡◌, ◌+◌, ◌-◌, ◌^◌, ◌<◌, Option, Some, None, refl, sym, ◌∙◌, ap, subst, arith}
use Rattle.std.specs.Prelude.{IfNone}
use Rattle.puz_board.specs.Boards.{moved, slid}
use Rattle.puz_walk.specs.StoredWordWalks.{word_walk_shown}
use Rattle.puz_walk.specs.Walks.{LeadsNowhere}
use Rattle.puz_walk.specs.WordSteps.{IsWordStepFrom}
use Rattle.puz_walk.proofs.BlankLemmas.{to_room}
use Rattle.puz_walk.proofs.OwnerLemmas.{tile_below}
use Rattle.puz_walk.proofs.WordWalkLemmas.{beyond_nowhere, blank_low, board, leads, margin_fits, none_nowhere, past_here, slides, some_moves}
use Rattle.puz_walk.proofs.WordWalkLemmas.{step_here, step_next, stored_next, sums_small, tile_here}
use Rattle.puz_walk.proofs.word_walks.WordWalk.enter_by.Goals as goal

none_so : {X : Type 0} (P : Type 0) → P → (o : Option X) → IfNone o P
none_so P h None = h
none_so P h (Some x) = tt

-- the blank's cell of a walk by edge words is one of the board's, so that a move from it can be looked up
pub after-requires : goal.after-requires
after-requires c = blank_low c.self.inside c.self.invariant

-- a move that would leave the board changes nothing of the walk by edge words, and leads nowhere
pub returns-in_err-to-clause-none : goal.returns-in_err-to-clause-none
returns-in_err-to-clause-none c =
    none_so _ (
      refl,
      subst (λ w. LeadsNowhere w c.args.mv) c.self.view_is
          (none_nowhere c.self.inside c.self.invariant c.args.mv c.in_err-to.ensures),
    ) c.from_residual.result

-- on entering, the tile is read in a cell that is one of the 25 of the spot
pub bounds-self-inside-from : goal.bounds-self-inside-from
bounds-self-inside-from c =
    let s = c.self.inside in
    let b = board s c.self.invariant in
    let to = c.in_ok-to.to in
    subst (λ k. k < 25) (sym c.from.ensures) (to_room s.bundle.now c.args.mv b (slid b to) to (slides s c.self.invariant c.args.mv to c.in_ok-to.ensures))

-- on entering, the margin of a walk by edge words can be taken from its bound
pub overflow_sub-self-inside : goal.overflow_sub-self-inside
overflow_sub-self-inside c = margin_fits c.self.inside c.self.invariant

-- on entering, each sum of a walk by edge words has room for one more
pub judge-requires-clause-small : goal.judge-requires-clause-small
judge-requires-clause-small c = sums_small c.self.inside c.self.invariant (omega arith)

-- on entering, the words are asked about a step of the tile from the board of which the spot keeps the sums
pub judge-requires-clause-step : goal.judge-requires-clause-step
judge-requires-clause-step c =
    let s = c.self.inside in
    let to = c.in_ok-to.to in
    let b = board s c.self.invariant in
    (b, slid b to, s.spot.blank, to, step_here s c.self.invariant c.args.mv to c.in_ok-to.ensures c.from.result c.from.ensures, c.self.invariant.spot.kept)

-- where some set would reach the limit, the walk by edge words is as before, and the move leads nowhere
pub returns-in_err-sums-clause-none : goal.returns-in_err-sums-clause-none
returns-in_err-sums-clause-none c =
    let s = c.self.inside in
    let b = board s c.self.invariant in
    let to = c.in_ok-to.to in
    let goes = c.in_err-sums.ensures.none b (slid b to) s.spot.blank to
    (step_here s c.self.invariant c.args.mv to c.in_ok-to.ensures c.from.result c.from.ensures) c.self.invariant.spot.kept in
    none_so _ (refl, subst (λ w. LeadsNowhere w c.args.mv) c.self.view_is (beyond_nowhere s c.self.invariant c.args.mv to c.in_ok-to.ensures goes))
    c.from_residual-in_err-sums.result

-- on entering, the tile of which it is held what its move changes is one of the board
pub held_of-requires-clause-tile : goal.held_of-requires-clause-tile
held_of-requires-clause-tile c =
    let s = c.self.inside in
    let to = c.in_ok-to.to in
    let b = board s c.self.invariant in
    tile_below s.bundle.now.side c.args.mv b (slid b to) _ s.spot.blank to
    (step_here s c.self.invariant c.args.mv to c.in_ok-to.ensures c.from.result c.from.ensures)

-- on entering, the blank may move from the spot of the board, to one with the sums that were found
pub move_blank-requires-clause-slides : goal.move_blank-requires-clause-slides
move_blank-requires-clause-slides c =
    let s = c.self.inside in
    let b = board s c.self.invariant in
    let to = c.in_ok-to.to in
    let judged = c.in_ok-sums.ensures.some b (slid b to) s.spot.blank to
    (step_here s c.self.invariant c.args.mv to c.in_ok-to.ensures c.from.result c.from.ensures) c.self.invariant.spot.kept in (
      b,
      slid b to,
      slides s c.self.invariant c.args.mv to c.in_ok-to.ensures,
      tile_here s c.self.invariant c.args.mv to c.in_ok-to.ensures c.from.result c.from.ensures,
      c.self.invariant.spot,
      judged.0,
    )

-- on entering, one move can be taken from the bound of a walk by edge words
pub overflow_sub-self : goal.overflow_sub-self
overflow_sub-self c = some_moves c.self.inside c.self.invariant

-- after a move by which no set reaches the limit, the walk by edge words is well stored at the next board
pub invariant_of-self : goal.invariant_of-self
invariant_of-self c =
    let s = c.self.inside in
    let b = board s c.self.invariant in
    let to = c.in_ok-to.to in
    let judged = c.in_ok-sums.ensures.some b (slid b to) s.spot.blank to
    (step_here s c.self.invariant c.args.mv to c.in_ok-to.ensures c.from.result c.from.ensures) c.self.invariant.spot.kept in
    let there = c.move_blank.ensures b (slid b to) (slides s c.self.invariant c.args.mv to c.in_ok-to.ensures)
    (tile_here s c.self.invariant c.args.mv to c.in_ok-to.ensures c.from.result c.from.ensures) c.self.invariant.spot judged.0 in
    stored_next s c.self.invariant c.args.mv to c.in_ok-to.ensures c.move_blank.new.spot there judged.1

-- a move by which no set reaches the limit leads to the next board, with one move less, by the word step that is answered
pub returns-clause-some : goal.returns-clause-some
returns-clause-some c =
    let s = c.self.inside in
    let b = board s c.self.invariant in
    let to = c.in_ok-to.to in
    let judged = c.in_ok-sums.ensures.some b (slid b to) s.spot.blank to
    (step_here s c.self.invariant c.args.mv to c.in_ok-to.ensures c.from.result c.from.ensures) c.self.invariant.spot.kept in
    let there = c.move_blank.ensures b (slid b to) (slides s c.self.invariant c.args.mv to c.in_ok-to.ensures)
    (tile_here s c.self.invariant c.args.mv to c.in_ok-to.ensures c.from.result c.from.ensures) c.self.invariant.spot judged.0 in
    let small : s.bound < 2 ^ 8 = omega arith in (
      ap (λ w. moved w.board c.args.mv) (sym c.self.view_is) ∙ leads s c.self.invariant c.args.mv to c.in_ok-to.ensures ∙ ap Some (sym there.numbers),
      ap (λ w. w.bundle) c.self.view_is,
      (let some = some_moves s c.self.invariant in let e : s.bound - 1 + 1 ≡ s.bound = omega arith in e ∙ ap (λ w. w.bound) c.self.view_is),
      subst (λ w. IsWordStepFrom w (word_walk_shown (record {
        bundle = s.bundle;
        spot = c.move_blank.new.spot;
        bound = s.bound - 1;
        margin = s.margin;
      })) (record { from = s.spot.blank; mv = c.args.mv; past = record { sums = s.spot.sums; held = c.held_of.result } })) c.self.view_is
          (step_next s c.self.invariant c.args.mv to c.in_ok-to.ensures small c.move_blank.new.spot there _
          (past_here s c.self.invariant c.args.mv to c.in_ok-to.ensures c.from.result c.from.ensures c.held_of.result
          (c.held_of.ensures b (λ set low. (c.self.invariant.spot.kept.each set low).are)))),
    )
