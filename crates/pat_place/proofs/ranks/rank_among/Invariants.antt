use Rattle.pat_place.proofs.RankSteps.{IsRanking}
use Rattle.pat_place.proofs.ranks.rank_among.Given as goal

-- the rank, the room and the free cells are those behind the first cells
abbrev pub invariant-loop-cell : goal.invariant-loop-cell
invariant-loop-cell l = IsRanking l.cells l.count l.cell-index l.free l.room l.rank
