use Rattle.std.proofs.Common.{◌-◌}
use Rattle.puz_board.proofs.RegionLemmas.{IsGrowing}
use Rattle.pat_place.proofs.flood.region_until.Given as goal

-- the region so far has the given cell, and free cells alone that paths reach from it
abbrev pub invariant-grow : goal.invariant-grow
invariant-grow l = IsGrowing l.n l.free l.cell l.region

-- how far the mask of the region is from that of all free cells
abbrev pub decreases-grow : goal.decreases-grow
decreases-grow l = l.free - l.region
