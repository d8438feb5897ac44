use Rattle.std.proofs.Common.{◌≡◌, length}
use Rattle.pat_place.proofs.SlotTableLemmas.{AreSlotsUpTo}
use Rattle.pat_place.proofs.slot_tables.slots_of.Given as goal

-- of 25 places, those of the cells seen so far have the slots of the free ones
abbrev pub invariant-loop-cell : goal.invariant-loop-cell
invariant-loop-cell l = record {
  size : length l.slots ≡ 25;
  slots : AreSlotsUpTo l.placement.pattern.side l.placement.cells l.cell l.slots;
}
