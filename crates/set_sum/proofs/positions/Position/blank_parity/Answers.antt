use Rattle.std.proofs.Common.{◌*◌, ◌%◌, ◌<◌, slice_index, sym, ◌∙◌, ap, subst}
use Rattle.puz_board.specs.Boards.{blank, side_of}
use Rattle.puz_board.specs.Parity.{blank_parity, taxicab}
use Rattle.puz_board.proofs.BoardLemmas.{side_of-board}
use Rattle.set_sum.specs.StoredPositions.{numbers_shown}
use Rattle.set_sum.proofs.SlideLemmas.{blank_below, blank_first}
use Rattle.set_sum.proofs.positions.Position.blank_parity.Goals as goal

-- the cell of the blank whose parity is asked is on the board
pub parity_of-requires : goal.parity_of-requires
parity_of-requires c =
    let s = c.self.inside in
    let n = s.bundle.now.side in
    subst (λ m. slice_index s.cells 0 < m * m) (sym c.side.ensures.side)
    (subst (λ z. z < n * n) (sym (blank_first n (numbers_shown s) s.cells c.self.invariant.board c.self.invariant.cells))
    (blank_below n (numbers_shown s) c.self.invariant.board))

-- the parity of the blank's stored cell is that of the board's blank
pub returns-clause-parity : goal.returns-clause-parity
unfolding blank_parity
returns-clause-parity c =
    let s = c.self.inside in
    let n = s.bundle.now.side in
    let b = numbers_shown s in
    c.parity_of.ensures.parity ∙
    ap (λ m. taxicab m (slice_index s.cells 0) % 2) (c.side.ensures.side ∙ sym (side_of-board n b c.self.invariant.board)) ∙
    ap (λ z. taxicab (side_of b) z % 2) (blank_first n b s.cells c.self.invariant.board c.self.invariant.cells) ∙
    ap (λ w. taxicab (side_of w.board) (blank w.board) % 2) c.self.view_is
