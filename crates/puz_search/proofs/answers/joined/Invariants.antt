use Rattle.std.proofs.Common.{◌≡◌, ◌+◌, ◌++◌, length, take}
use Rattle.arrayvec.specs.ArrayVec.{array_vec_len}
use Rattle.puz_search.proofs.answers.joined.Given as goal

-- the letters so far are the first ones of the front
abbrev pub invariant-loop-letter : goal.invariant-loop-letter
invariant-loop-letter l = record {
  items : l.letters.items ≡ take l.letter-index l.front;
  count : array_vec_len l.letters ≡ l.letter-index;
}

-- the letters so far are the whole front and the first ones of the back
abbrev pub invariant-loop-letter-2 : goal.invariant-loop-letter-2
invariant-loop-letter-2 l = record {
  items : l.letters.items ≡ l.front ++ take l.letter-index l.back;
  count : array_vec_len l.letters ≡ length l.front + l.letter-index;
}
