use Rattle.std.proofs.Common.{◌≡◌, ℕ, ◌<◌, get_or}
use Rattle.puz_board.specs.Boards.{at}
use Rattle.set_sum.proofs.cells.has_numbers.Given as goal

-- the cells up to this one have the same
abbrev pub invariant-loop-cell : goal.invariant-loop-cell
invariant-loop-cell l = (c : ℕ) → c < l.cell → at l.board c ≡ get_or l.numbers c 0
