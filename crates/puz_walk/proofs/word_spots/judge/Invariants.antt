use Rattle.std.proofs.Common.{◌≡◌, ℕ, ◌<◌, ◌≤◌, true, false, List, length, slice_index}
use Rattle.tab_rule.specs.declared.tables.Count.TheVariants.{Finite}
use Rattle.edge_words.specs.Spots.{IsStepOf}
use Rattle.set_sum.specs.Bundles.{BundleSays}
use Rattle.puz_walk.specs.WordSpots.{AreKept}
use Rattle.puz_walk.proofs.word_spots.judge.Given as goal

-- the sums of the sets so far are those of the next board; they are below the limit, or one of them isn't
abbrev pub invariant-loop-set : goal.invariant-loop-set
invariant-loop-set l = record {
  room : length l.sums ≡ 16;
  says : (b next : List ℕ) (from to : ℕ) → IsStepOf l.bundle.side l.slide.mv b next l.slide.tile from to → AreKept l.bundle b l.spot.sums l.spot.kept
      → (k : ℕ) → k < l.set → BundleSays l.bundle k next (Finite (slice_index l.sums k));
  below : l.is_below ≡ true → (k : ℕ) → k < l.set → slice_index l.sums k < l.limit;
  beyond : l.is_below ≡ false → (k : ℕ) × (k < l.set) × (l.limit ≤ slice_index l.sums k);
}
