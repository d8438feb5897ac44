use Rattle.std.proofs.Common.{refl}
use Rattle.pat_place.specs.Ranks.{placements}
use Rattle.pat_place.proofs.laws.ranks_of_three_cells.Goals as goal

-- on side 3 the cells 1, 2, 3 have rank 64, and the last cells of 504 have rank 503
pub returns : goal.returns
unfolding placements
returns c = (refl, refl, refl)
