use Rattle.std.proofs.Common.{◌≡◌, ◌*◌, ◌∙◌, ap, arith, below_more, length, length-take, min, refl, subst, sym, take}
use Rattle.puz_board.specs.Boards.{IsBoard, IsBoardOf}
use Rattle.log_file.specs.LogFiles.{behind, front_lemma}
use Rattle.log_file.specs.FormFaults.{behind_first}
use Rattle.log_file.proofs.BoardLemmas.{IsBoard-of, IsBoardOf-sized}
use Rattle.log_file.proofs.RowLemmas.{behind_first-next}
use Rattle.log_file.proofs.checks.check_boards.Goals as goal

-- where the numbers of a lemma are no board, it is the first such lemma
pub returns-in_default-from_cells-clause-err : goal.returns-in_default-from_cells-clause-err
returns-in_default-from_cells-clause-err c =
    let n = c.args.header.now.side in
    let at = c.loop-i.invariant in
    let cells = ap (λ m. m.board) c.in-Some.ensures.some.1 ∙ ap (λ rest. (front_lemma n rest).board) at.rest in (
      c.loop-i.i,
      refl,
      record {
        filled = c.requires.filled;
        within = c.loop-i-test.true;
        boards = at.boards;
        no_board = λ board. c.in_default-from_cells.ensures (subst IsBoard (sym cells) (IsBoard-of n _ board));
      },
    )

-- the next lemma has a board, and the bytes behind the lemma are left
pub loop-i-preserved : goal.loop-i-preserved
loop-i-preserved c =
    let n = c.args.header.now.side in
    let at = c.loop-i.invariant in
    let cells = ap (λ m. m.board) c.in-Some.ensures.some.1 ∙ ap (λ rest. (front_lemma n rest).board) at.rest in
    let size : length c.in-Some.lemma.cells.now ≡ n * n =
    (let room = c.in-Some.ensures.some.0.head in
    let taken : length (take (n * n) c.loop-i.rest.now) ≡ min (n * n) (length c.loop-i.rest.now) = length-take (n * n) c.loop-i.rest.now in
    let first : length (take (n * n) c.loop-i.rest.now) ≡ n * n = omega arith in
    ap (λ m. length m.board) c.in-Some.ensures.some.1 ∙ first) in
    let good : IsBoard c.in-Some.lemma.cells.now × _ = c.in-Some-from_cells.ensures in
    let good : IsBoard c.in-Some.lemma.cells.now × _ = c.in-Some-from_cells.ensures in
    record {
      boards = below_more (λ k. IsBoardOf n (front_lemma n (behind_first n k c.args.bytes.now)).board) c.loop-i.i at.boards
          (subst (IsBoardOf n) cells (IsBoardOf-sized n _ c.requires.size.low c.requires.size.high size good.0));
      rest = c.in-Some.ensures.some.2 ∙ ap (behind n) at.rest ∙ sym (behind_first-next n c.loop-i.i c.args.bytes.now);
    }
