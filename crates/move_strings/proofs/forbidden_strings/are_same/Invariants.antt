use Rattle.std.proofs.Common.{ℕ, ◌<◌}
use Rattle.std.specs.Prelude.{All}
use Rattle.move_strings.specs.Checks.{IsSameFrom}
use Rattle.move_strings.proofs.forbidden_strings.are_same.Given as goal

-- from each cell before this one, each string has the effect of its witness
abbrev pub invariant-loop-cell : goal.invariant-loop-cell
invariant-loop-cell l = (cell : ℕ) → cell < l.cell → All (λ entry. IsSameFrom l.fn.side cell entry.string.items entry.witness.items) l.fn.forbidden
