use Rattle.std.proofs.Common.{arith}
use Rattle.pdb_keep.proofs.MakerLemmas.{letters-next, letters-room}
use Rattle.pdb_keep.proofs.solutions.letters_of.Goals as goal

-- there is room for the letter of the next byte, if it is that of a move
pub push_str-requires : goal.push_str-requires
push_str-requires c =
    let l = c.loop-byte in
    let is = c.letter_in.ensures in
    (omega arith, letters-room _ l.letters.bytes _ l.byte-index c.loop-byte-test.true l.invariant is c.requires)

-- the letters of the bytes so far and those of the rest are all letters still
pub loop-byte-preserved : goal.loop-byte-preserved
loop-byte-preserved c =
    let l = c.loop-byte in
    rw c.push_str.ensures.bytes
    (letters-next _ l.letters.bytes _ l.byte-index c.loop-byte-test.true l.invariant c.letter_in.ensures)
