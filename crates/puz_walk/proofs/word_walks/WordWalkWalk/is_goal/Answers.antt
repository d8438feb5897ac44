use Rattle.std.proofs.Common.{subst}
use Rattle.puz_walk.specs.Walks.{IsOpen}
use Rattle.puz_walk.proofs.WordWalkLemmas.{walk_open}
use Rattle.puz_walk.proofs.word_walks.WordWalkWalk.is_goal.Goals as goal

-- a walk by edge words whose board is compared with the goal is open
pub returns-then-self-eq0-clause-is_open : goal.returns-then-self-eq0-clause-is_open
returns-then-self-eq0-clause-is_open c = subst IsOpen c.self.view_is (walk_open c.self.inside c.self.invariant)

-- and so it is where its blank isn't in cell 0
pub returns-else-self-eq0-clause-is_open : goal.returns-else-self-eq0-clause-is_open
returns-else-self-eq0-clause-is_open c = subst IsOpen c.self.view_is (walk_open c.self.inside c.self.invariant)
