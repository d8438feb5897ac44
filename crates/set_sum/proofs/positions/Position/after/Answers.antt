use Rattle.std.proofs.Common.{◌*◌, ◌<◌, slice_index, sym, ◌∙◌, ap, subst}
use Rattle.puz_board.specs.Boards.{blank}
use Rattle.puz_board.specs.Cells.{step_of}
use Rattle.set_sum.specs.StoredPositions.{numbers_shown}
use Rattle.set_sum.proofs.SlideLemmas.{blank_below, blank_first}
use Rattle.set_sum.proofs.positions.Position.after.Goals as goal

-- the cell of the blank from which a move is asked is on the board
pub cell_after-requires : goal.cell_after-requires
cell_after-requires c =
    let p = c.self.inside in
    let n = p.bundle.now.side in
    subst (λ m. slice_index p.cells 0 < m * m) (sym c.side.ensures.side)
    (subst (λ z. z < n * n) (sym (blank_first n (numbers_shown p) p.cells c.self.invariant.board c.self.invariant.cells))
    (blank_below n (numbers_shown p) c.self.invariant.board))

-- the cell to which the move leads is that of the blank's step
pub returns : goal.returns
returns c =
    let p = c.self.inside in
    let n = p.bundle.now.side in
    c.cell_after.ensures ∙ ap (λ m. step_of m (slice_index p.cells 0) c.args.mv) c.side.ensures.side ∙
    ap (λ z. step_of n z c.args.mv) (blank_first n (numbers_shown p) p.cells c.self.invariant.board c.self.invariant.cells) ∙
    ap (λ w. step_of w.bundle.side (blank w.board) c.args.mv) c.self.view_is
