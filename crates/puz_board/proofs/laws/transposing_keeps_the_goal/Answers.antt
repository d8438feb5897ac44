use Rattle.puz_board.proofs.TransposeLemmas.{transposed-goal}
use Rattle.puz_board.proofs.laws.transposing_keeps_the_goal.Goals as goal

-- the goal board is its own transposed board
pub returns : goal.returns
returns c n b good goal_board = transposed-goal n b good goal_board
