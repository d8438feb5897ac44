use Rattle.std.proofs.Common.{◌≡◌, take}
use Rattle.arrayvec.specs.ArrayVec.{array_vec_len}
use Rattle.puz_walk.proofs.outlines.copied.Given as goal

-- the members so far are the first ones
abbrev pub invariant-loop-member : goal.invariant-loop-member
invariant-loop-member l = record {
  items : l.set.items ≡ take l.member-index l.members;
  count : array_vec_len l.set ≡ l.member-index;
}
