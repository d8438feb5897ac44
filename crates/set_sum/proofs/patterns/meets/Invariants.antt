use Rattle.std.specs.Prelude.{Any}
use Rattle.std.proofs.Common.{take}
use Rattle.set_sum.specs.OverPatterns.{tables_with}
use Rattle.set_sum.proofs.TwiceLemmas.{AreOne}
use Rattle.set_sum.proofs.patterns.meets.Given as goal

-- no member so far has the pattern of the other one, where one of them is transposed
abbrev pub invariant-loop-member : goal.invariant-loop-member
invariant-loop-member l = ¬ Any (λ m. AreOne (tables_with l.patterns) m l.other) (take l.member-index l.set)
