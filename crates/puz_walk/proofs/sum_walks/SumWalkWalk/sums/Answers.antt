use Rattle.std.proofs.Common.{subst}
use Rattle.puz_walk.specs.Starts.{AreSumsOn}
use Rattle.puz_walk.proofs.StartLemmas.{sums_from}
use Rattle.puz_walk.proofs.sum_walks.SumWalkWalk.sums.Goals as goal

-- the sums of a walk's tally are those that the sets say
pub returns : goal.returns
returns c =
    let w = c.self.inside in
    let tally = c.self.invariant.tally in
    subst (λ walk. AreSumsOn walk.bundle walk.board w.tally.sums) c.self.view_is
    (sums_from w.position.bundle w.position.board w.tally.sums tally.sums_room (λ set low. (tally.each set low).says))
