use Rattle.pat_place.proofs.RankSteps.{IsUnranking}
use Rattle.pat_place.proofs.ranks.cells_at.Given as goal

-- the cells put down, the block and the rest of the rank lead to the list of the given rank
abbrev pub invariant-loop-i : goal.invariant-loop-i
invariant-loop-i l = IsUnranking l.size l.count l.rank l.cells l.i l.free l.block l.rest
