use Rattle.std.proofs.Common.{refl}
use Rattle.set_sum.proofs.SlideLemmas.{known_none}
use Rattle.set_sum.proofs.sums.Sums.new.Goals as goal

-- the sums of a new board know nothing yet, which holds of any board
pub invariant_of-result : goal.invariant_of-result
invariant_of-result c = known_none _ _ _ refl refl
