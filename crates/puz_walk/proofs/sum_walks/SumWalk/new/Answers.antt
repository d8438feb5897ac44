use Rattle.std.proofs.Common.{◌≡◌, ◌∙◌, ap, inr, subst}
use Rattle.puz_board.specs.Boards.{IsBoardOf}
use Rattle.puz_board.specs.Parity.{blank_parity}
use Rattle.puz_walk.specs.Cuts.{margin_of}
use Rattle.puz_walk.proofs.OpenLemmas.{cut_below}
use Rattle.puz_walk.proofs.sum_walks.SumWalk.new.Goals as goal

-- a board with a bound below the margin is closed, so that there is no walk over sums from it
pub returns-then-bound-margin-clause-none : goal.returns-then-bound-margin-clause-none
returns-then-bound-margin-clause-none c =
    let v = c.args.bundle.now in
    let b = c.args.board.now in
    let good : IsBoardOf v.side b = subst (λ n. IsBoardOf n b) c.requires c.side-side.ensures.board in
    let margin : c.margin_of-margin.result ≡ margin_of c.args.bound (blank_parity b) = c.margin_of-margin.ensures
    ∙ ap (margin_of c.args.bound) c.blank_parity.ensures.parity in
    inr (cut_below v b c.args.bound c.margin_of-margin.result margin c.sets-sets.ensures.bundle good c.if-bound-margin.true)
