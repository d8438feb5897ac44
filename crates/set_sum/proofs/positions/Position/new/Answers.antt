use Rattle.std.proofs.Common.{◌≡◌, ◌*◌, sym, ap, subst, take, rules}
use Rattle.puz_board.specs.Boards.{IsBoardOf}
use Rattle.puz_board.specs.Transposing.{transposed}
use Rattle.tab_rule.specs.Counts.{AreCellsOf}
use Rattle.set_sum.specs.ShownSums.{ShownSums}
use Rattle.set_sum.proofs.SlideLemmas.{shown_board}
use Rattle.set_sum.proofs.positions.Position.new.Goals as goal

board : (c : goal.After-mirrored) → IsBoardOf c.args.bundle.now.side c.args.board.now
board c = subst (λ n. IsBoardOf n c.args.board.now) c.requires c.cells_of_all-cells.ensures.board

shown : (c : goal.After-mirrored) → take (c.args.bundle.now.side * c.args.bundle.now.side) c.numbers_of.result ≡ c.args.board.now
shown c = shown_board c.args.bundle.now.side c.args.board.now c.numbers_of.result (board c) c.numbers_of.ensures.room c.numbers_of.ensures.numbers

-- the fields made for a board are those of a stored position
pub invariant_of-result : goal.invariant_of-result
invariant_of-result c =
    let v = c.args.bundle.now in
    let b = c.args.board.now in
    let also : AreCellsOf c.mirrored.result (transposed b) =
    c.mirrored.ensures b (subst (λ n. IsBoardOf n b) (sym c.side.ensures.side) c.side.ensures.board) c.cells_of_all-cells.ensures.cells in
    record {
      space = c.numbers_of.ensures.room;
      board = subst (IsBoardOf v.side) (sym (shown c)) (board c);
      room = search rules;
      cells = subst (AreCellsOf c.cells_of_all-cells.result) (sym (shown c)) c.cells_of_all-cells.ensures.cells;
      room_transposed = search rules;
      transposed = subst (λ x. AreCellsOf c.mirrored.result (transposed x)) (sym (shown c)) also;
    }

-- the position that is made has the given bundle and the given board
pub returns : goal.returns
returns c = ap {B = ShownSums} (λ x. record { bundle = c.args.bundle.now; board = x }) (shown c)
