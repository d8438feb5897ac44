use Rattle.pat_place.proofs.StandingLemmas.{IsStanding}
use Rattle.pat_place.proofs.ranks.standing_of.Given as goal

-- the rank is that of the first tiles, and the mask has the tiles that are left
abbrev pub invariant-loop-rest : goal.invariant-loop-rest
invariant-loop-rest l = IsStanding l.pattern.tiles l.found l.count l.rest l.free l.room l.rank

-- the mask of the tiles that aren't ranked
abbrev pub decreases-loop-rest : goal.decreases-loop-rest
decreases-loop-rest l = l.rest
