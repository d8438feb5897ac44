use Rattle.std.proofs.Common.{◌≡◌, ◌++◌, drop}
use Rattle.pdb_keep.specs.Solve.{letters_of}
use Rattle.pdb_keep.proofs.solutions.letters_of.Given as goal

-- the letters so far and those of what is left are all
abbrev pub invariant-loop-byte : goal.invariant-loop-byte
invariant-loop-byte l = l.letters.bytes ++ letters_of (drop l.byte-index l.moves) ≡ letters_of l.moves
