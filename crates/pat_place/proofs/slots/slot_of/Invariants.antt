use Rattle.std.proofs.Common.{◌≡◌}
use Rattle.std.specs.Int.{bit_at}
use Rattle.pat_place.proofs.SlotSteps.{IsRest}
use Rattle.pat_place.proofs.slots.slot_of.Given as goal

-- the regions of the slots so far are taken, and the given cell is still left
abbrev pub invariant-search : goal.invariant-search
invariant-search l = IsRest l.placement.pattern.side l.placement.cells l.rest l.slot × (bit_at l.rest l.cell ≡ 1)

-- the mask of the free cells whose regions aren't taken
abbrev pub decreases-search : goal.decreases-search
decreases-search l = l.rest
