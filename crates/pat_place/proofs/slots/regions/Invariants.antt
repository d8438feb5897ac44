use Rattle.pat_place.proofs.SlotSteps.{AreListed}
use Rattle.pat_place.proofs.slots.regions.Given as goal

-- each mask so far has the cells of its slot, and the cells of all later slots are left
abbrev pub invariant-each : goal.invariant-each
invariant-each l = AreListed l.placement.pattern.side l.placement.cells l.regions.items l.rest

-- the mask of the free cells whose regions aren't listed
abbrev pub decreases-each : goal.decreases-each
decreases-each l = l.rest
