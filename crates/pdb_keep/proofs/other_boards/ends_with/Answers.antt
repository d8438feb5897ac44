use Rattle.std.proofs.Common.{◌≡◌, ◌≢◌, ◌∙◌, ◌-◌, Some, eqb, false, rules, subst, sym, true}
use Rattle.std.specs.Prelude.{slice_get}
use Rattle.puz_board.specs.Boards.{IsBoardOf, blank, side_of}
use Rattle.puz_board.proofs.BoardLemmas.{side_of-board}
use Rattle.log_file.specs.Logs.{Lemma}
use Rattle.log_check.specs.GoodLogs.{IsLast}
use Rattle.log_check.proofs.AnswerLemmas.{last_some}
use Rattle.pdb_keep.proofs.LogLemmas.{boards_same, last_board}
use Rattle.pdb_keep.proofs.other_boards.ends_with.Goals as goal

-- a log doesn't end with a board of another side
pub returns-then-ne-clause-ends : goal.returns-then-ne-clause-ends
returns-then-ne-clause-ends c =
    let log = c.args.log.now in
    let b = c.args.board.now in
    let other : log.side ≢ side_of b = search rules in
    (λ no. let clash : false ≡ true = no in absurd cc, λ ends. absurd (other (sym (side_of-board log.side b (last_board log b c.side.ensures.log ends)))))

-- it ends with a board of its side that is that of its last lemma
pub returns-clause-ends : goal.returns-clause-ends
returns-clause-ends c =
    let log = c.args.log.now in
    let a = c.board.result in
    let b = c.args.board.now in
    let last = last_some log c.side.ensures.log in
    let there : (lemma : Lemma) → IsLast log.lemmas lemma → slice_get log.lemmas (c.len.result - 1) ≡ Some lemma =
    λ lemma is. subst (λ count. slice_get log.lemmas (count - 1) ≡ Some lemma) (sym c.len.ensures.count) is in
    let side : side_of b ≡ log.side = search rules in
    let is_board = subst (λ n. IsBoardOf n b) side c.side-2.ensures.board in (
      λ yes. record {
        last = last.0;
        is_last = last.1;
        board = sym (c.board.ensures.value last.0 (there last.0 last.1))
            ∙ boards_same log.side a b c.board.ensures.board is_board (eqb (side_of a) (side_of b)) (eqb (blank a) (blank b)) (sym c.eq.ensures ∙ yes);
      },
      λ ends. let same : a ≡ b = c.board.ensures.value ends.last (there ends.last ends.is_last) ∙ ends.board in search (rules, same),
    )
