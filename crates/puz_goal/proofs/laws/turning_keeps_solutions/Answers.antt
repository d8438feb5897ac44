use Rattle.puz_goal.proofs.SolvingLemmas.{solved_for, solves_for}
use Rattle.puz_goal.proofs.laws.turning_keeps_solutions.Goals as goal

-- moves solve a board for a goal exactly where the turned moves solve the turned board
pub returns : goal.returns
returns c = λ goal b text n good. (solves_for goal b text n good, solved_for goal b text n good)
