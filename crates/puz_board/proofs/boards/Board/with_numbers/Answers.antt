use Rattle.std.proofs.Common.{◌<◌, length, set, get_or, ◌∙◌, ap, arith}
use Rattle.puz_board.specs.Boards.{side_of}
use Rattle.puz_board.proofs.BoardLemmas.{cell_of-below, cells_least, cells_most}
use Rattle.puz_board.proofs.StoredLemmas.{one_more_stored}
use Rattle.puz_board.proofs.boards.Board.with_numbers.Goals as goal

-- copying one number more makes the cells the numbers so far, with zeros behind them
pub loop-i-preserved : goal.loop-i-preserved
loop-i-preserved c =
    let size = c.requires.board.size in
    let few = cells_most (side_of c.args.numbers.now) c.args.numbers.now c.requires.board in
    let here : c.loop-i.i < length c.args.numbers.now = omega arith in
    let room : c.loop-i.i < 25 = omega arith in
    ap (λ cells. set cells c.loop-i.i (get_or c.args.numbers.now c.loop-i.i 0)) c.loop-i.invariant ∙
    one_more_stored c.args.numbers.now c.loop-i.i 25 here room

-- the place of the number 0 on a board is small enough for a byte
pub overflow_cast-blank : goal.overflow_cast-blank
overflow_cast-blank c =
    let side = side_of c.args.numbers.now in
    let some = cells_least side c.args.numbers.now c.requires.board in
    let few = cells_most side c.args.numbers.now c.requires.board in
    let below = cell_of-below side c.args.numbers.now c.requires.board 0 (omega arith) in
    let is = c.place_of-blank.ensures in
    omega arith
