use Rattle.std.proofs.Common.{◌≡◌, ℕ, ◌<◌, List, length}
use Rattle.std.specs.Prelude.{slice_index_or}
use Rattle.puz_walk.specs.Pasts.{IsHeldOf}
use Rattle.puz_walk.specs.WordSpots.{AreAllKept}
use Rattle.puz_walk.specs.declared.pasts.Held.{Held}
use Rattle.puz_walk.proofs.pasts.held_of.Given as goal

-- of the sets so far it is held what a move of the tile changes
abbrev pub invariant-loop-set : goal.invariant-loop-set
invariant-loop-set l = record {
  room : length l.held ≡ 2;
  each : (b : List ℕ) → AreAllKept l.bundle b l.kept → (k : ℕ) (none : Held) → k < l.set → k < length l.bundle.sets
      → IsHeldOf l.bundle b k l.slide.tile (slice_index_or l.held k none);
}
