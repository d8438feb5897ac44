use Rattle.std.proofs.Common.{◌≡◌, ◌*◌, ◌<◌, ◌≤◌, sym, ◌∙◌, ap, subst, arith, slice_index, length-set}
use Rattle.puz_board.specs.Transposing.{transposed_cell}
use Rattle.puz_board.proofs.BoardLemmas.{cells_most}
use Rattle.set_sum.proofs.MirrorLemmas.{found_below, mirrored_all, mirrored_cell, noted}
use Rattle.set_sum.proofs.tables.mirrored.Goals as goal

-- the cell of the transposed number is a cell of the board, so it can be transposed
pub transposed_cell-requires-in-loop-number : goal.transposed_cell-requires-in-loop-number
transposed_cell-requires-in-loop-number c =
    let n = c.args.side in
    let at : c.from.result ≡ transposed_cell n c.loop-number.number = c.from.ensures ∙ c.transposed_cell.ensures.value in
    let low = c.loop-number-test.true in
    let count = c.cells-number-end.ensures.value in
    subst (λ k. slice_index c.args.found.now k < n * n) (sym at)
    (found_below n c.requires.0 c.args.found.now c.requires.1 c.requires.2 c.loop-number.number (omega arith))

-- setting the mirrored cell of one number more leaves those of the numbers before
pub loop-number-preserved : goal.loop-number-preserved
loop-number-preserved c =
    let n = c.args.side in
    let most : n * n ≤ 25 = cells_most n c.requires.0 c.requires.1 in
    let low = c.loop-number-test.true in
    let count = c.cells-number-end.ensures.value in
    let at : c.from.result ≡ transposed_cell n c.loop-number.number = c.from.ensures ∙ c.transposed_cell.ensures.value in (
      length-set _ _ _ ∙ c.loop-number.invariant.0,
      noted (mirrored_cell n c.args.found.now) c.loop-number.cells c.loop-number.invariant.0 c.loop-number.number c.from-in-loop-number.result _
          c.from-in-loop-number.ensures (omega arith)
          (c.transposed_cell-in-loop-number.ensures.value ∙ ap (λ k. transposed_cell n (slice_index c.args.found.now k)) at) c.loop-number.invariant.1,
    )

-- at the end, the cells are those of the numbers on the transposed board
pub returns : goal.returns
returns c board good are =
    let count = c.cells-number-end.ensures.value in
    let end = c.loop-number-test.false in
    mirrored_all c.args.side board c.args.found.now good are c.loop-number.cells c.loop-number.number (omega arith) c.loop-number.invariant.1
