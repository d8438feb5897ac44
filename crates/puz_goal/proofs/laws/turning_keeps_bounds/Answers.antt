use Rattle.puz_goal.proofs.SolvingLemmas.{bounded_for, bounds_for}
use Rattle.puz_goal.proofs.laws.turning_keeps_bounds.Goals as goal

-- a bound holds of a board for a goal exactly where it does of the turned board
pub returns : goal.returns
returns c = λ goal b n good. (bounds_for goal b n good, bounded_for goal b n good)
