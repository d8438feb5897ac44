use Rattle.std.proofs.Common.{◌≡◌, ◌<◌, ℕ, length, slice_index}
use Rattle.puz_board.specs.Boards.{at}
use Rattle.puz_goal.specs.Turning.{turned_cell, turned_number}
use Rattle.puz_goal.proofs.turning.half_turned.Given as goal

-- the numbers of the cells up to this one are those of the turned board
abbrev pub invariant-loop-cell : goal.invariant-loop-cell
invariant-loop-cell l = (length l.numbers ≡ 25) × ((c : ℕ) → c < l.cell
    → slice_index l.numbers c ≡ turned_number l.side (at l.board (turned_cell l.side c)))
