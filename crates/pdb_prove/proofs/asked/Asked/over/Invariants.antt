use Rattle.std.proofs.Common.{◌≡◌, ◌<◌, ℕ, get_or, length}
use Rattle.puz_walk.specs.declared.starts.Start.{Start}
use Rattle.claim_text.specs.declared.claims.Claim.{Claim}
use Rattle.pdb_prove.specs.Steps.{IsPosed}
use Rattle.pdb_prove.proofs.asked.Asked.over.Given as goal

-- the claims so far have their starts
abbrev pub invariant-loop-claim : goal.invariant-loop-claim
invariant-loop-claim l = record {
  size : length l.starts.items ≡ l.claim-index;
  each : (number : ℕ) (c : Claim) (d : Start) → number < l.claim-index
      → IsPosed l.goal l.bundle (get_or l.claim-items number c) (get_or l.starts.items number d);
}
