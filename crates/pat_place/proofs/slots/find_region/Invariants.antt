use Rattle.std.proofs.Common.{◌≢◌, ℕ, ◌<◌, get_or}
use Rattle.std.specs.Int.{bit_at}
use Rattle.pat_place.proofs.slots.find_region.Given as goal

-- none of the regions before this one has the cell
abbrev pub invariant-loop-j : goal.invariant-loop-j
invariant-loop-j l = (j : ℕ) → j < l.j → bit_at (get_or l.regions j 0) l.cell ≢ 1
