use Rattle.std.proofs.Common.{◌≡◌, ◌<◌, ℕ, length, slice_index}
use Rattle.puz_board.specs.Boards.{at}
use Rattle.puz_board.proofs.boards.Board.cells_of_all.Given as goal

-- the numbers of the cells up to this one have theirs
abbrev pub invariant-loop-cell : goal.invariant-loop-cell
invariant-loop-cell l = (length l.found ≡ 25) × ((c : ℕ) → c < l.cell → slice_index l.found (at l.number-items c) ≡ c)
