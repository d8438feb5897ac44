use Rattle.std.proofs.Common.{ℕ, ◌<◌, ◌/◌, ◌%◌, cond, eqb, length, slice_index}
use Rattle.puz_walk.specs.WordBundles.{pattern_at}
use Rattle.puz_walk.specs.WordSpots.{HasPlaces, IsFoundOn}
use Rattle.puz_walk.proofs.word_spots.kept_of.Given as goal

-- what is found for the places up to this one is kept
abbrev pub invariant-loop-place : goal.invariant-loop-place
invariant-loop-place l = record {
  room : HasPlaces l.kept;
  each : (k : ℕ) → k < l.place → k % 16 / 2 < length l.bundle.tables
      → IsFoundOn (pattern_at l.bundle (k % 16 / 2)) (cond (eqb (k % 2) 1) l.turned l.board) (slice_index l.kept.indexes k) (slice_index l.kept.words k);
}
