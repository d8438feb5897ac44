use Rattle.std.proofs.Common.{◌≡◌, ◌*◌, ◌<◌, Some, sym, ◌∙◌, ap, ap₂, subst}
use Rattle.std.specs.Prelude.{option_map}
use Rattle.puz_board.specs.Boards.{blank, side_of, slid}
use Rattle.puz_board.specs.Cells.{step_of}
use Rattle.puz_board.specs.Stored.{numbers_shown}
use Rattle.puz_board.proofs.StoredLemmas.{IsStored-moved, numbers_shown-moved}
use Rattle.puz_board.proofs.boards.Board.apply.Goals as goal

is_blank : (c : goal.After-next-2-1) → c.blank-from.result ≡ blank (numbers_shown c.next.inside)
is_blank c = c.blank-from.ensures.cell ∙ sym (ap blank c.next.view_is)

inside : (c : goal.After-next-2-1) → c.in_ok-to.to < side_of (numbers_shown c.next.inside) * side_of (numbers_shown c.next.inside)
inside c = subst (λ n. c.in_ok-to.to < n * n) (c.side.ensures.side ∙ sym (ap side_of c.next.view_is)) c.in_ok-to.ensures.within

-- the fields after a move of the blank are those of a stored board
pub invariant_of-next : goal.invariant_of-next
invariant_of-next c = IsStored-moved c.next.inside c.next.invariant c.blank-from.result c.in_ok-to.to (is_blank c) (inside c)

-- where the blank stays on the board, the board that is answered is the one after the move
pub returns : goal.returns
returns c =
    let now = c.args.self.now in
    let stepped : Some c.in_ok-to.to ≡ step_of (side_of now) (blank now) c.args.mv =
    c.in_ok-to.ensures.cell ∙ ap₂ (λ n z. step_of n z c.args.mv) c.side.ensures.side c.blank-from.ensures.cell in
    ap Some (
    numbers_shown-moved c.next.inside c.next.invariant c.blank-from.result c.in_ok-to.to (is_blank c) (inside c) ∙
    ap (λ b. slid b c.in_ok-to.to) c.next.view_is) ∙
    ap (option_map (slid now)) stepped
