use Rattle.std.proofs.Common.{◌∷◌, length}
use Rattle.set_sum.proofs.ReadLemmas.{HasMembers, next_place}
use Rattle.set_sum.proofs.lines.split_line.Given as goal

-- the text is the word of a set, the members read so far, a space and the rest
abbrev pub invariant-members : goal.invariant-members
invariant-members l = HasMembers l.tables l.text (32 ∷ l.rest) l.members.items l.is_there (next_place l.last)

-- how much of the line is left to read gets less with each member
abbrev pub decreases-members : goal.decreases-members
decreases-members l = length l.rest
