use Rattle.move_strings.proofs.BoundPartLemmas.{small_power}
use Rattle.move_strings.proofs.bound_parts.digits.Goals as goal

-- the power of 4 at each of the eight places is below 2^32
pub pow-requires : goal.pow-requires
pow-requires c = small_power c.loop-place.place c.loop-place-test.true
