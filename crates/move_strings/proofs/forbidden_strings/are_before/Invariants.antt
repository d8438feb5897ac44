use Rattle.std.proofs.Common.{ℕ, ◌<◌, get_or}
use Rattle.move_strings.specs.Strings.{ComesBefore}
use Rattle.move_strings.specs.declared.forbidden_strings.Forbidden.{Forbidden}
use Rattle.move_strings.proofs.forbidden_strings.are_before.Given as goal

-- each witness before this one comes before its string
abbrev pub invariant-loop-entry : goal.invariant-loop-entry
invariant-loop-entry l = (k : ℕ) (d : Forbidden) → k < l.entry-index → ComesBefore (get_or l.forbidden k d).witness.items (get_or l.forbidden k d).string.items
