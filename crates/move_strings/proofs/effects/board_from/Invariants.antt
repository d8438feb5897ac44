use Rattle.std.proofs.Common.{◌≡◌, ℕ, ◌<◌, length, get_or}
use Rattle.move_strings.specs.Checks.{exchanged}
use Rattle.move_strings.proofs.effects.board_from.Given as goal

-- before this place are the goal board's numbers, with the blank and one number exchanged
abbrev pub invariant-loop-place : goal.invariant-loop-place
invariant-loop-place l =
    (length l.numbers ≡ 25) ×
    ((k : ℕ) → k < l.place → get_or l.numbers k 0 ≡ exchanged l.fn.cell k)
