use Rattle.std.proofs.Common.{◌≡◌, map, take}
use Rattle.arrayvec.specs.ArrayVec.{array_vec_len}
use Rattle.puz_walk.proofs.outlines.sets_of.Given as goal

-- the sets so far are the first ones
abbrev pub invariant-loop-set : goal.invariant-loop-set
invariant-loop-set l = record {
  items : map (λ set. set.items) l.sets.items ≡ take l.set l.bundle.sets;
  count : array_vec_len l.sets ≡ l.set;
}
