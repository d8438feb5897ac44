use Rattle.puz_goal.proofs.SolvingLemmas.{boards_turn}
use Rattle.puz_goal.proofs.laws.boards_turn.Goals as goal

-- a board turned is a board, and turned again it is what it was
pub returns : goal.returns
returns c = boards_turn
