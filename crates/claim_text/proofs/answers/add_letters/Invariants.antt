use Rattle.std.proofs.Common.{◌≡◌, ◌++◌, take}
use Rattle.claim_text.specs.Claims.{letters}
use Rattle.claim_text.proofs.answers.add_letters.Given as goal

-- the line has the letters of the text so far behind what it had
abbrev pub invariant-loop-b : goal.invariant-loop-b
invariant-loop-b l = l.line.bytes ≡ l.initial.line.bytes ++ letters (take l.b-index l.moves)
