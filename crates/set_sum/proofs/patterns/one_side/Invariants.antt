use Rattle.std.proofs.Common.{◌≡◌, take}
use Rattle.std.specs.List.{AllByRecursion}
use Rattle.set_sum.proofs.patterns.one_side.Given as goal

-- the patterns so far have the side of the first one
abbrev pub invariant-loop-i : goal.invariant-loop-i
invariant-loop-i l = AllByRecursion (λ p. p.side ≡ l.side) (take l.i l.patterns)
