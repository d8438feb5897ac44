use Rattle.std.proofs.Common.{length}
use Rattle.puz_board.proofs.solvable.+inversion_parity.Given as goal

-- the list of numbers gets shorter as its inversions are counted
abbrev pub decreases-inversion_parity : goal.decreases-inversion_parity
decreases-inversion_parity l = length l.numbers.now
