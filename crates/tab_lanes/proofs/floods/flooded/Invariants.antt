use Rattle.tab_lanes.proofs.FloodingLemmas.{AreFlooding, room_of}
use Rattle.tab_lanes.proofs.floods.flooded.Given as goal

-- each lane's cells so far are free and reached from its mask, with the mask among them
abbrev pub invariant-grow : goal.invariant-grow
invariant-grow g l = AreFlooding l.fn.side l.fn.masks l.fn.free l.regions

-- how much the masks may still gain in all, as a number
abbrev pub decreases-grow : goal.decreases-grow
decreases-grow g l = room_of l.free l.regions
