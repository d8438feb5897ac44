use Rattle.std.proofs.Common.{◌≡◌, ℕ, suc, ◌+◌, ◌<◌, ◌≤◌, List, length, drop, get_or, Option, Some, sym, ◌∙◌, ap, arith, drop-cons}
use Rattle.std.specs.Prelude.{option_and_then}
use Rattle.std.proofs.lemmas.List.{drop_all}
use Rattle.puz_board.specs.declared.moves.Move.{Move}
use Rattle.puz_board.specs.Boards.{moved}
use Rattle.puz_board.specs.Paths.{board_after}
use Rattle.move_strings.proofs.effects.after.Goals as goal

after_next : (b : List ℕ) (ms : List Move) (i : ℕ) (d : Move) (o : Option (List ℕ)) → i < length ms → o ≡ moved b (get_or ms i d)
    → board_after b (drop i ms) ≡ option_and_then (λ e. board_after e (drop (i + 1) ms)) o
unfolding board_after
after_next b ms i d o inside is =
    let next : i + 1 ≡ suc i = omega arith in
    ap (board_after b) (drop-cons ms i d inside) ∙ ap (option_and_then (λ e. board_after e (drop (suc i) ms))) (sym is)
    ∙ ap (λ k. option_and_then (λ e. board_after e (drop k ms)) o) (sym next)

after_none : (at : List ℕ) (ms : List Move) (i : ℕ) → length ms ≤ i → board_after at (drop i ms) ≡ Some at
unfolding board_after
after_none at ms i past = ap (board_after at) (drop_all i ms past)

-- where one of the moves can't be made, there is no board after them
pub returns-in_err-at : goal.returns-in_err-at
returns-in_err-at c =
    c.from_residual.ensures ∙
    sym (c.loop-mv.invariant ∙ after_next c.loop-mv.at c.args.moves.now c.loop-mv.mv-index _ c.apply.result (omega arith) c.apply.ensures
    ∙ ap (option_and_then (λ e. board_after e (drop (c.loop-mv.mv-index + 1) c.args.moves.now))) (c.in_err-at.was))

-- the move that was made leaves the board after all moves the same
pub loop-mv-preserved : goal.loop-mv-preserved
loop-mv-preserved c =
    c.loop-mv.invariant ∙ after_next c.loop-mv.at c.args.moves.now c.loop-mv.mv-index _ c.apply.result (omega arith) c.apply.ensures
    ∙ ap (option_and_then (λ e. board_after e (drop (c.loop-mv.mv-index + 1) c.args.moves.now))) (c.in_ok-at.was)

-- once no move is left, the board that was reached is that after all moves
pub returns : goal.returns
returns c = sym (c.loop-mv.invariant ∙ after_none c.loop-mv.at c.args.moves.now c.loop-mv.mv-index c.loop-mv-test.false)
