use Rattle.std.proofs.Common.{◌≡◌, ◌⊎◌, ℕ, ◌<◌, length, slice_index}
use Rattle.puz_walk.specs.Tallies.{IsLow, IsTold}
use Rattle.puz_walk.proofs.tallies.judge.Given as goal

-- the first set and the sets so far are told, and are below the limit
abbrev pub invariant-loop-set : goal.invariant-loop-set
invariant-loop-set l = record {
  room : length l.told ≡ 16;
  told : (k : ℕ) → (k ≡ l.tally.first) ⊎ (k < l.set) → IsTold l.position.bundle l.position.board l.tile k (slice_index l.told k);
  low : (k : ℕ) → (k ≡ l.tally.first) ⊎ (k < l.set) → IsLow l.position.bundle l.position.board l.limit k;
}
