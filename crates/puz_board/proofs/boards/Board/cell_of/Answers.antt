use Rattle.std.proofs.Common.{◌≡◌, ◌*◌, ◌<◌, ◌∙◌, ap, arith}
use Rattle.puz_board.specs.Boards.{at, cell_of, side_of}
use Rattle.puz_board.proofs.BoardLemmas.{at-cell_of, cell_of-below, cells_most}
use Rattle.puz_board.proofs.boards.Board.cell_of.Goals as goal

is_cell : (c : goal.After-place_of) → c.place_of.result ≡ cell_of c.args.number c.args.self.now
is_cell c = c.place_of.ensures ∙ ap (cell_of c.args.number) c.numbers.ensures.numbers

inside : (c : goal.After-place_of) → cell_of c.args.number c.args.self.now < side_of c.args.self.now * side_of c.args.self.now
inside c =
    let size = c.numbers.ensures.board.size in
    cell_of-below (side_of c.args.self.now) c.args.self.now c.numbers.ensures.board c.args.number (omega arith)

-- the cell of a number is small enough for a byte
pub overflow_cast-result : goal.overflow_cast-result
overflow_cast-result c =
    let is = is_cell c in
    let below = inside c in
    let few = cells_most (side_of c.args.self.now) c.args.self.now c.numbers.ensures.board in
    omega arith

-- the cell that is answered for a number is a cell of the board
pub returns-clause-within : goal.returns-clause-within
returns-clause-within c =
    let is = is_cell c in
    let below = inside c in
    let size = c.numbers.ensures.board.size in
    omega arith

-- the cell that is answered for a number has this number in it
pub returns-clause-holds : goal.returns-clause-holds
returns-clause-holds c =
    let size = c.numbers.ensures.board.size in
    ap (at c.args.self.now) (is_cell c) ∙
    at-cell_of (side_of c.args.self.now) c.args.self.now c.numbers.ensures.board c.args.number (omega arith)
