use Rattle.std.proofs.Common.{◌≡◌, ℕ, ◌<◌, ◌*◌, ◌/◌, ◌%◌, length, get_or, None}
use Rattle.puz_walk.specs.StoredWords.{IsOwnerOf}
use Rattle.puz_walk.proofs.owners.all_owners.Given as goal

-- the places up to this one have their owners
abbrev pub invariant-loop-place : goal.invariant-loop-place
invariant-loop-place l = record {
  room : length l.owners ≡ 512;
  each : (k : ℕ) → k < l.place → k % 32 < l.bundle.side * l.bundle.side → IsOwnerOf l.bundle (k / 32) (k % 32) (get_or l.owners k None);
}
