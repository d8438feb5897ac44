use Rattle.std.proofs.Common.{◌≡◌, ◌<◌, length}
use Rattle.puz_make.proofs.leaves.Leaf.best.Given as goal

-- the board is as it was, and the best of the sets so far is one of the bundle
abbrev pub invariant-loop-set : goal.invariant-loop-set
invariant-loop-set l = (l.sums ≡ l.fn.sums) × (l.best.set < length l.fn.sums.bundle.sets)
