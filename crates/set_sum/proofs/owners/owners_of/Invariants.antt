use Rattle.set_sum.specs.Owners.{AreOwnersOf}
use Rattle.set_sum.specs.Parts.{parts_shown}
use Rattle.set_sum.proofs.owners.owners_of.Given as goal

-- the members of the tables so far have theirs
abbrev pub invariant-loop-i : goal.invariant-loop-i
invariant-loop-i l = AreOwnersOf l.fn.side (parts_shown l.tables) l.tile l.i l.owners
