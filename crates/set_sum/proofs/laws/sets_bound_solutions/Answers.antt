use Rattle.set_sum.proofs.SumLemmas.{set_bounds}
use Rattle.set_sum.proofs.laws.sets_bound_solutions.Goals as goal

-- a number that a set says of a board is at most the length of each solution, and never means none
pub returns : goal.returns
returns c n tables set is b good count says = set_bounds n tables set is b good count says
