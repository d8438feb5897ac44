use Rattle.pat_place.proofs.RankLemmas.{placements_in_order}
use Rattle.pat_place.proofs.laws.ranks_are_in_order.Goals as goal

-- of two ranks the greater one is that of the lexicographically later cells
pub returns : goal.returns
returns c = placements_in_order
