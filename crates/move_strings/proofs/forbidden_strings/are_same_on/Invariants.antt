use Rattle.std.proofs.Common.{ℕ, ◌<◌, get_or}
use Rattle.move_strings.specs.Checks.{IsSameOn}
use Rattle.move_strings.specs.declared.forbidden_strings.Forbidden.{Forbidden}
use Rattle.move_strings.proofs.forbidden_strings.are_same_on.Given as goal

-- each string before this one has the effect of its witness on the board
abbrev pub invariant-loop-entry : goal.invariant-loop-entry
invariant-loop-entry l = (k : ℕ) (d : Forbidden) → k < l.entry-index
    → IsSameOn l.fn.board (get_or l.forbidden k d).string.items (get_or l.forbidden k d).witness.items
