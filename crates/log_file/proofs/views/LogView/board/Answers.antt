use Rattle.std.proofs.Common.{◌≡◌, ℕ, zero, suc, ◌<◌, List, [], ◌∷◌, ap, arith, get_or, length, map, subst, sym}
use Rattle.std.proofs.lemmas.List.{length-map}
use Rattle.std.specs.List.{AllByRecursion}
use Rattle.puz_board.specs.Boards.{IsBoardOf}
use Rattle.log_file.specs.StoredLogs.{lemma_viewed}
use Rattle.log_file.specs.declared.views.LemmaView.{LemmaView}
use Rattle.log_file.proofs.views.LogView.board.Goals as goal

IsBoardOf-at : (n : ℕ) (views : List LemmaView) (i : ℕ) (default : LemmaView) → i < length views
    → AllByRecursion (λ lemma. IsBoardOf n lemma.board) (map lemma_viewed views)
    → IsBoardOf n (get_or views i default).board
IsBoardOf-at n [] i default within all = absurd (omega arith)
IsBoardOf-at n (view ∷ views) zero default within all = all.0
IsBoardOf-at n (view ∷ views) (suc i) default within all = IsBoardOf-at n views i default (omega arith) all.1

-- the board that is answered is a board of the log's side
pub returns-clause-board : goal.returns-clause-board
returns-clause-board c =
    let views = c.self.inside.lemmas.items in
    let shown : length (map lemma_viewed views) ≡ length c.args.self.now.lemmas = ap (λ log. length log.lemmas) c.self.view_is in
    let size : length (map lemma_viewed views) ≡ length views = length-map views lemma_viewed in
    subst (λ view. IsBoardOf c.args.self.now.side view.board) (sym c.index.ensures)
    (subst (λ n. IsBoardOf n (get_or views c.args.i c.index.result.now).board) (ap (λ log. log.side) c.self.view_is)
    (IsBoardOf-at c.self.inside.side views c.args.i c.index.result.now (omega arith) c.self.invariant.boards))
