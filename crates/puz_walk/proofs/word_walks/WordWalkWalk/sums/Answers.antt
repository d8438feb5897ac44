use Rattle.std.proofs.Common.{subst}
use Rattle.puz_walk.specs.Starts.{AreSumsOn}
use Rattle.puz_walk.specs.StoredWordWalks.{word_walk_shown}
use Rattle.puz_walk.proofs.StartLemmas.{sums_from}
use Rattle.puz_walk.proofs.word_walks.WordWalkWalk.sums.Goals as goal

-- the sums of a walk's spot are those that the sets say
pub returns : goal.returns
returns c =
    let w = c.self.inside in
    let kept = c.self.invariant.spot.kept in
    subst (λ walk. AreSumsOn walk.bundle walk.board w.spot.sums) c.self.view_is
    (sums_from w.bundle.now (word_walk_shown w).board w.spot.sums kept.room.sums_room (λ set low. (kept.each set low).says))
