use Rattle.std.proofs.Common.{subst}
use Rattle.pat_place.specs.Regions.{IsSlot}
use Rattle.pat_place.proofs.SlotLemmas.{slot_one, slot_region, region_slot}
use Rattle.pat_place.proofs.laws.one_slot_is_one_region.Goals as goal

-- free cells have one slot exactly where a path of free cells joins them
pub returns : goal.returns
returns c p good cell d i j is is_d = (
  λ same. slot_region p.pattern.side good.low good.high p.cells cell d j (subst (λ x. IsSlot p.pattern.side p.cells cell x) same is) is_d,
  λ joined. slot_one p.pattern.side good.low good.high p.cells d i j (region_slot p.pattern.side good.low good.high p.cells cell d i joined is) is_d,
)
