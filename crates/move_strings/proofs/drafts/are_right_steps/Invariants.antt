use Rattle.std.proofs.Common.{ℕ, ◌<◌, get_or}
use Rattle.move_strings.specs.Drafts.{IsRightStep, moves_at}
use Rattle.move_strings.specs.declared.drafts.Transition.{Transition}
use Rattle.move_strings.proofs.drafts.are_right_steps.Given as goal

-- each step of the table before this place is right
abbrev pub invariant-loop-place : goal.invariant-loop-place
invariant-loop-place l = (k : ℕ) (none : Transition) → k < l.place → IsRightStep l.labels l.forbidden (moves_at l.labels k) (get_or l.steps k none)
