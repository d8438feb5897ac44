use Rattle.std.proofs.Common.{◌≡◌, ◌+◌, drop}
use Rattle.move_strings.proofs.drafts.ends_with.Given as goal

-- where the rest of the string is the rest of the moves, the whole string is their end
abbrev pub invariant-loop-i : goal.invariant-loop-i
invariant-loop-i l = drop (l.start + l.i) l.moves ≡ drop l.i l.string → drop l.start l.moves ≡ l.string
