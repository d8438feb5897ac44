use Rattle.std.proofs.Common.{◌≡◌, ◌≤◌}
use Rattle.pat_place.specs.Ranks.{falling_factorial}
use Rattle.pat_place.proofs.patterns.Pattern.count.Given as goal

-- the count is the falling product of the factors so far, and there are to be at most 8
abbrev pub invariant-loop-placed : goal.invariant-loop-placed
invariant-loop-placed l = (l.count ≡ falling_factorial l.cells l.placed) × (l.placed-end ≤ 8)
