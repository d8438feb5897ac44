use Rattle.std.proofs.Common.{◌≡◌, ◌≢◌, ◌-◌, Some, eqb, sym, ◌∙◌, subst, rules}
use Rattle.std.specs.Prelude.{slice_get}
use Rattle.std.proofs.lemmas.Bool.{not-false}
use Rattle.puz_board.specs.Boards.{IsBoardOf, blank, side_of}
use Rattle.log_check.proofs.AnswerLemmas.{last_some}
use Rattle.log_check.proofs.NodeLemmas.{boards_same}
use Rattle.log_check.proofs.logs.claimed_bound.Goals as goal

-- where the last lemma of a log is of another board, the log's file has fault L5
pub returns-then-ne-3-clause-err : goal.returns-then-ne-3-clause-err
returns-then-ne-3-clause-err c file is =
    let log = c.args.log.now in
    let last = last_some log is.is_log in
    let log_side : log.side ≡ c.args.bundle.now.side = search rules in
    let board_side : side_of c.args.board.now ≡ c.args.bundle.now.side = search rules in
    let other : c.board.result ≢ c.args.board.now = search rules in
    let there = subst (λ count. slice_get log.lemmas (count - 1) ≡ Some last.0) (sym c.len-last.ensures.count) last.1 in
    (log, last.0, is, record { log_side = log_side; board_side = board_side }, last.1, λ same. other (c.board.ensures.value last.0 there ∙ same))

-- the last lemma is of the given board, and its bound is the one that is answered
pub returns-clause-ok : goal.returns-clause-ok
returns-clause-ok c =
    let log = c.args.log.now in
    let last = last_some log c.side.ensures.log in
    let side : log.side ≡ c.args.bundle.now.side = search rules in
    let there = subst (λ count. slice_get log.lemmas (count - 1) ≡ Some last.0) (sym c.len-last.ensures.count) last.1 in
    let found : c.board.result ≡ last.0.board = c.board.ensures.value last.0 there in
    let of_side : side_of c.args.board.now ≡ log.side = search rules in
    let is_board : IsBoardOf log.side c.args.board.now = subst (λ n. IsBoardOf n c.args.board.now) of_side c.side-else-ne.ensures.board in
    let a = c.board.result in
    let b = c.args.board.now in
    let same : a ≡ b =
    boards_same log.side a b c.board.ensures.board is_board (eqb (side_of a) (side_of b)) (eqb (blank a) (blank b))
    (not-false _ (sym c.ne-2.ensures ∙ c.if-ne-3.false)) in (
      last.0,
      record { side = side; is_last = last.1; board = sym found ∙ same },
      sym (c.bound.ensures last.0 there),
    )
