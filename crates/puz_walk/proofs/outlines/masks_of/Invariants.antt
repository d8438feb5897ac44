use Rattle.std.proofs.Common.{◌≡◌, ℕ, ◌<◌, map, take}
use Rattle.arrayvec.specs.ArrayVec.{array_vec_len}
use Rattle.puz_walk.specs.Outlines.{CanTableHaveWords, full_part}
use Rattle.puz_walk.proofs.outlines.masks_of.Given as goal

-- the tables so far can have words, and the masks are theirs
abbrev pub invariant-loop-number : goal.invariant-loop-number
invariant-loop-number l = record {
  items : map full_part l.masks.items ≡ take l.number l.bundle.tables;
  count : array_vec_len l.masks ≡ l.number;
  each : (table : ℕ) → table < l.number → CanTableHaveWords l.bundle table;
}
