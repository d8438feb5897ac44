use Rattle.std.proofs.Common.{take}
use Rattle.set_sum.specs.Members.{patterns_of_set}
use Rattle.set_sum.specs.Parts.{parts_shown}
use Rattle.set_sum.specs.Reading.{first_side}
use Rattle.set_sum.specs.OverPatterns.{tables_with}
use Rattle.set_sum.proofs.TakenLemmas.{IsTaken}
use Rattle.set_sum.proofs.patterns.overlap.Given as goal

-- the mask of taken tiles has those of the members so far, whose patterns are disjoint
abbrev pub invariant-loop-member : goal.invariant-loop-member
invariant-loop-member l = IsTaken (patterns_of_set (first_side (tables_with l.patterns)) (parts_shown (tables_with l.patterns)) (take l.member-index l.set)) l.taken
