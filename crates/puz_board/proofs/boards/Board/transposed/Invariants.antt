use Rattle.std.proofs.Common.{◌≡◌, ◌<◌, ℕ, length, slice_index}
use Rattle.puz_board.specs.Boards.{at}
use Rattle.puz_board.specs.Transposing.{transposed_cell}
use Rattle.puz_board.proofs.boards.Board.transposed.Given as goal

-- the numbers of the cells up to this one are those of the transposed board
abbrev pub invariant-loop-cell : goal.invariant-loop-cell
invariant-loop-cell l = (length l.numbers ≡ 25) × ((c : ℕ) → c < l.cell
    → slice_index l.numbers c ≡ transposed_cell l.side (at l.self (transposed_cell l.side c)))
