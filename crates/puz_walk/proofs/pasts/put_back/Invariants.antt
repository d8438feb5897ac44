use Rattle.std.proofs.Common.{ℕ, List}
use Rattle.edge_words.specs.Spots.{IsStepOf}
use Rattle.puz_walk.specs.Pasts.{AreHeld}
use Rattle.puz_walk.specs.WordSpots.{AreAllKept, HasPlaces}
use Rattle.puz_walk.proofs.JudgeLemmas.{IsHalf}
use Rattle.puz_walk.proofs.pasts.put_back.Given as goal

-- the sets so far are put back, or have followed the move back
abbrev pub invariant-loop-set : goal.invariant-loop-set
invariant-loop-set l = record {
  room : HasPlaces l.kept;
  half : (b next : List ℕ) (from to : ℕ) → IsStepOf l.bundle.side l.slide.mv b next l.slide.tile from to → AreAllKept l.bundle b l.fn.kept
      → AreHeld l.bundle next l.slide.tile l.held → IsHalf l.bundle b next l.set l.kept;
}
