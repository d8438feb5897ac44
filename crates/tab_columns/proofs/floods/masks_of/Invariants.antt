use Rattle.std.proofs.Common.{◌≡◌, length}
use Rattle.tab_columns.proofs.FloodLemmas.{AreTaken}
use Rattle.tab_columns.proofs.floods.masks_of.Given as goal

-- the slots before this one have their masks, and the cells of the others are left
abbrev pub invariant-loop-slot : goal.invariant-loop-slot
invariant-loop-slot l = record {
  taken : AreTaken l.table.pattern l.placements l.slot l.free l.rest l.masks;
  len : length l.rest ≡ 256;
}
