use Rattle.pat_place.proofs.SlotLemmas.{slot_some, slot_one}
use Rattle.pat_place.proofs.laws.each_free_cell_has_one_slot.Goals as goal

-- each free cell has one slot, and no two
pub returns : goal.returns
returns c p good cell free =
    let some = slot_some p.pattern.side good.low good.high p.cells cell free in
    (some.0, some.1, λ i is. slot_one p.pattern.side good.low good.high p.cells cell i some.0 is some.1)
