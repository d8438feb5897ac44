use Rattle.std.proofs.Common.{subst}
use Rattle.puz_walk.specs.Walks.{IsOpen}
use Rattle.puz_walk.proofs.SumWalkLemmas.{walk_open}
use Rattle.puz_walk.proofs.sum_walks.SumWalkWalk.is_goal.Goals as goal

-- a walk over sums whose board is compared with the goal is open
pub returns-clause-is_open : goal.returns-clause-is_open
returns-clause-is_open c = subst IsOpen c.self.view_is (walk_open c.self.inside c.self.invariant)
