use Rattle.std.proofs.Common.{ℕ, ◌<◌, ◌≤◌, slice_index}
use Rattle.puz_walk.proofs.word_spots.spot_of.Given as goal

-- the sums of the sets up to this one aren't above the limit
abbrev pub invariant-loop-set : goal.invariant-loop-set
invariant-loop-set l = (s : ℕ) → s < l.set → slice_index l.sums s ≤ l.most
