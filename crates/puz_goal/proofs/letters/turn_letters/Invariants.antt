use Rattle.std.proofs.Common.{◌≡◌, ◌++◌, drop, map, take}
use Rattle.puz_goal.specs.Turning.{turned_letter}
use Rattle.puz_goal.proofs.letters.turn_letters.Given as goal

-- the letters before this one are turned, and the others are as they were
abbrev pub invariant-loop-i : goal.invariant-loop-i
invariant-loop-i l = l.text ≡ map turned_letter (take l.i l.initial.text) ++ drop l.i l.initial.text
