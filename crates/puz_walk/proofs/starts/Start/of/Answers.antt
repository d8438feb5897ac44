use Rattle.std.proofs.Common.{refl, subst}
use Rattle.puz_board.specs.Boards.{IsBoardOf}
use Rattle.puz_walk.proofs.StartLemmas.{start_from}
use Rattle.puz_walk.proofs.starts.Start.of.Goals as goal

-- the sums up to 255 that the sets say of a board are what a search begins with
pub returns-clause-start : goal.returns-clause-start
returns-clause-start c =
    let b = c.args.board.now in
    start_from c.args.bundle.now b (subst (λ n. IsBoardOf n b) c.requires c.side-side.ensures.board) c.sums_of.result
    c.sums_of.ensures.room c.sums_of.ensures.some c.sums_of.ensures.none _ refl refl
