use Rattle.std.proofs.Common.{◌≡◌, ◌≤◌}
use Rattle.move_strings.specs.BoundParts.{powers_within}
use Rattle.move_strings.proofs.bound_parts.digits.Given as goal

-- the digits so far are the powers of 4 before this place that are at most the count, one at least
abbrev pub invariant-loop-place : goal.invariant-loop-place
invariant-loop-place l = (l.digits ≡ powers_within l.place l.fn.count) × (l.digits ≤ l.place) × (1 ≤ l.place → 1 ≤ l.digits)
