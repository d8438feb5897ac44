use Rattle.std.proofs.Common.{◌≡◌, ◌*◌, length, refl, sym, ◌∙◌, ap₂, arith}
use Rattle.std.proofs.lemmas.List.{ext_get_or}
use Rattle.set_sum.proofs.cells.has_numbers.Goals as goal

-- the comparison says yes of the board with these numbers, and of no other board
pub returns : goal.returns
returns c = (
  λ _. ext_get_or 0 c.args.board.now c.args.numbers.now (sym c.requires) (λ i low.
      c.loop-cell.invariant i (
      let board = c.side.ensures.board in
      let size = board.size in
      let side : c.side.result * c.side.result ≡ length c.args.board.now = ap₂ (λ m n. m * n) c.side.ensures.side c.side.ensures.side ∙ sym size in
      let count = c.cells-cell-end.ensures.value in
      let end = c.loop-cell-test.false in
      omega arith)),
  λ _. refl,
)
