use Rattle.std.proofs.Common.{◌≡◌, ℕ}
use Rattle.std.specs.Int.{bit_at}
use Rattle.set_sum.specs.Noting.{IsJoined}
use Rattle.set_sum.proofs.known.joined.Given as goal

-- what is known so far is joined, and the places left to take over are among those given
abbrev pub invariant-loop-fresh : goal.invariant-loop-fresh
invariant-loop-fresh l = record {
  joined : IsJoined l.places l.other l.known l.now;
  fresh : (p : ℕ) → bit_at l.fresh p ≡ 1 → bit_at l.places p ≡ 1;
}

-- the mask of places left to take over gets less
abbrev pub decreases-loop-fresh : goal.decreases-loop-fresh
decreases-loop-fresh l = l.fresh
