use Rattle.puz_board.proofs.ParityLemmas.{solution_parity}
use Rattle.puz_board.proofs.laws.solutions_have_the_blanks_parity.Goals as goal

-- the length of each solution of a board is even or odd as its blank's distance from cell 0
pub returns : goal.returns
returns c n b good path solves = solution_parity n b good path solves
