use Rattle.pat_place.specs.StoredSlots.{AreAllSlots}
use Rattle.pat_place.proofs.slot_tables.SlotTable.build.Given as goal

-- for each set that is kept, the slots of the cells that it leaves free are kept
abbrev pub invariant-loop : goal.invariant-loop
invariant-loop l = AreAllSlots l.pattern.side l.masks.items l.slots.items
