use Rattle.std.proofs.Common.{◌≡◌, ◌++◌, [], ◌∷◌, ◌∙◌, ap, ap₂, map, rules, subst, sym}
use Rattle.std.proofs.lemmas.List.{map-append}
use Rattle.log_file.specs.FormFaults.{behind_first}
use Rattle.puz_board.specs.Boards.{IsBoard}
use Rattle.log_file.specs.LogFiles.{behind, front_lemma}
use Rattle.log_file.specs.StoredLogs.{lemma_viewed}
use Rattle.log_file.proofs.BoardLemmas.{IsBoard-of}
use Rattle.log_file.proofs.RowLemmas.{behind_first-next, first_lemmas-next}
use Rattle.log_file.proofs.views.lemmas_in.Goals as goal

-- the numbers of each lemma are a board, so this place isn't reached
pub unreachable-requires-in_default-from_cells : goal.unreachable-requires-in_default-from_cells
unreachable-requires-in_default-from_cells c =
    let n = c.args.header.now.side in
    let cells = ap (λ m. m.board) c.in-Some.ensures.some.1 ∙ ap (λ rest. (front_lemma n rest).board) c.loop.invariant.rest in
    c.in_default-from_cells.ensures (subst IsBoard (sym cells) (IsBoard-of n _ (c.requires.boards c.loop.counter c.loop-test.true)))

-- the lemma that was read is listed behind the others, and the bytes behind it are left
pub loop-preserved : goal.loop-preserved
loop-preserved c =
    let n = c.args.header.now.side in
    let good : IsBoard c.in-Some.lemma.cells.now × (c.in-Some-from_cells.board ≡ c.in-Some.lemma.cells.now) = c.in-Some-from_cells.ensures in
    let same : record { board = c.in-Some-from_cells.board; bound = c.in-Some.lemma.bound; tree = c.in-Some.lemma.tree.now }
    ≡ front_lemma n (behind_first n c.loop.counter c.args.bytes.now) =
    (λ i. record { board = good.1 i; bound = c.in-Some.lemma.bound; tree = c.in-Some.lemma.tree.now })
    ∙ c.in-Some.ensures.some.1 ∙ ap (front_lemma n) c.loop.invariant.rest in
    record {
      room = search rules;
      filled = search rules;
      listed =
          ap (map lemma_viewed) c.push_reserved.ensures.items ∙ map-append lemma_viewed c.loop.lemmas.items _ ∙
          ap₂ (λ front m. front ++ m ∷ []) c.loop.invariant.listed same ∙ sym (first_lemmas-next n c.loop.counter c.args.bytes.now);
      rest = c.in-Some.ensures.some.2 ∙ ap (behind n) c.loop.invariant.rest ∙ sym (behind_first-next n c.loop.counter c.args.bytes.now);
    }
