use Rattle.std.proofs.Common.{◌≡◌, ℕ, List, take, ◌∙◌, arith}
use Rattle.puz_board.specs.Boards.{IsBoardOf, blank}
use Rattle.move_strings.proofs.BoardLemmas.{if_board, put_board, some_board}
use Rattle.move_strings.proofs.effects.board_from.Goals as goal

abbrev b : goal.After-from_cells → List ℕ
b c = take c.from-2.result c.loop-place.numbers

found : (c : goal.After-from_cells) → IsBoardOf c.args.side (b c) × (blank (b c) ≡ c.args.cell)
found c =
    let count = c.from-2.ensures ∙ c.cells.ensures.value in
    let past = c.loop-place-test.false in
    let end = c.cells-place-end.ensures.value in
    put_board c.args.side c.args.cell c.from-2.result c.loop-place.numbers c.cells.ensures.low c.cells.ensures.high c.requires
    count c.loop-place.invariant.0 (λ k low. c.loop-place.invariant.1 k (omega arith))

-- the numbers put down are a board, so there is an answer
pub returns-clause-some : goal.returns-clause-some
returns-clause-some c = (some_board c.args.side (b c) (found c).0 c.from_cells.result c.from_cells.ensures).0

-- the board that is answered has the given side, and its blank in the given cell
pub returns-clause-board : goal.returns-clause-board
returns-clause-board c =
    if_board (λ board. IsBoardOf c.args.side board × (blank board ≡ c.args.cell)) (b c) (found c) c.from_cells.result
    (some_board c.args.side (b c) (found c).0 c.from_cells.result c.from_cells.ensures).1
