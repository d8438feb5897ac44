use Rattle.std.proofs.Common.{◌≡◌, take}
use Rattle.pdb_run.specs.Writing.{joined}
use Rattle.pdb_run.proofs.answers.lines.Given as goal

-- the text is the pieces so far in one
abbrev pub invariant-loop-piece : goal.invariant-loop-piece
invariant-loop-piece l = l.all.bytes ≡ joined (take l.piece-index l.pieces)
