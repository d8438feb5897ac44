use Rattle.std.proofs.Common.{◌≡◌, ◌+◌, ◌-◌, Option, Some, None, inr, slice_index, ◌∙◌, ap, subst, arith}
use Rattle.std.specs.Prelude.{IfNone}
use Rattle.puz_board.specs.Boards.{IsBoardOf}
use Rattle.puz_board.specs.Parity.{blank_parity}
use Rattle.puz_walk.specs.Cuts.{margin_of}
use Rattle.puz_walk.proofs.OpenLemmas.{cut_below, cut_from}
use Rattle.puz_walk.proofs.WordWalkLemmas.{stored_of}
use Rattle.puz_walk.proofs.word_walks.WordWalk.new.Goals as goal

none_so : {X : Type 0} (P : Type 0) → P → (o : Option X) → IfNone o P
none_so P h None = h
none_so P h (Some x) = tt

-- a board with a bound below the margin is closed, so that there is no walk by edge words from it
pub returns-then-bound-margin-clause-none : goal.returns-then-bound-margin-clause-none
returns-then-bound-margin-clause-none c =
    let v = c.args.bundle.now in
    let b = c.args.board.now in
    let good : IsBoardOf v.side b = subst (λ n. IsBoardOf n b) c.requires.side c.side-side.ensures.board in
    let margin : c.margin_of-margin.result ≡ margin_of c.args.bound (blank_parity b) = c.margin_of-margin.ensures
    ∙ ap (margin_of c.args.bound) c.blank_parity.ensures.parity in
    inr (cut_below v b c.args.bound c.margin_of-margin.result margin c.sets-sets.ensures.bundle good c.if-bound-margin.true)

-- a board of which some set's sum leaves no margin below the bound is closed, and there is no walk by edge words
pub returns-in_err-spot-clause-none : goal.returns-in_err-spot-clause-none
returns-in_err-spot-clause-none c =
    let v = c.args.bundle.now in
    let b = c.args.board.now in
    let margin : c.margin_of-margin.result ≡ margin_of c.args.bound (blank_parity b) = c.margin_of-margin.ensures
    ∙ ap (margin_of c.args.bound) c.blank_parity.ensures.parity in
    let fits = c.if-bound-margin.false in
    none_so _ (inr (cut_from v b c.args.bound c.margin_of-margin.result margin (c.args.bound - c.margin_of-margin.result + 1)
    (omega arith) c.in_err-spot.ensures.none)) c.from_residual.result

-- the walk by edge words that is made of a board's spot is well stored, with its sums below the bound by the margin
pub invariant_of-result : goal.invariant_of-result
invariant_of-result c =
    let v = c.args.bundle.now in
    let b = c.args.board.now in
    let margin : c.margin_of-margin.result ≡ margin_of c.args.bound (blank_parity b) = c.margin_of-margin.ensures
    ∙ ap (margin_of c.args.bound) c.blank_parity.ensures.parity in
    let spot = c.in_ok-spot.spot in
    let at = c.in_ok-spot.ensures.some.0 in
    let fits = c.if-bound-margin.false in
    stored_of (record { bundle = c.args.bundle; spot = spot; bound = c.args.bound; margin = c.margin_of-margin.result }) c.sets-sets.ensures.bundle b at margin
    (λ set low. let below = c.in_ok-spot.ensures.some.1 set (slice_index spot.sums set) (at.kept.each set low).says in omega arith)
