use Rattle.std.proofs.Common.{◌↔◌, drop}
use Rattle.move_strings.specs.Strings.{IsEarlier}
use Rattle.move_strings.proofs.order.comes_before.Given as goal

-- one string is earlier than another exactly where what is left of it is earlier
abbrev pub invariant-loop-i : goal.invariant-loop-i
invariant-loop-i l = IsEarlier (drop l.i l.first) (drop l.i l.second) ↔ IsEarlier l.first l.second
