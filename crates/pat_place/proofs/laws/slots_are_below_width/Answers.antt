use Rattle.pat_place.proofs.WidthLemmas.{slot_within}
use Rattle.pat_place.proofs.laws.slots_are_below_width.Goals as goal

-- no slot of a placement is beyond its width
pub returns : goal.returns
returns c p good is cell j slot = slot_within p.pattern.side good.low good.high p.cells cell j is.inside is.apart slot
