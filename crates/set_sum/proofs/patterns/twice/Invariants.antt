use Rattle.std.proofs.Common.{take}
use Rattle.set_sum.specs.Reading.{NamesTwice}
use Rattle.set_sum.specs.OverPatterns.{tables_with}
use Rattle.set_sum.proofs.patterns.twice.Given as goal

-- no two members so far have one pattern where one of them is transposed
abbrev pub invariant-loop-i : goal.invariant-loop-i
invariant-loop-i l = ¬ NamesTwice (tables_with l.patterns) (take l.i l.set)
