use Rattle.std.proofs.Common.{◌≡◌, ℕ, ◌<◌, length, slice_index}
use Rattle.set_sum.specs.Owners.{AreOwners}
use Rattle.set_sum.specs.Parts.{parts_shown}
use Rattle.set_sum.proofs.owners.all_owners.Given as goal

-- the tiles up to this one have theirs
abbrev pub invariant-loop-tile : goal.invariant-loop-tile
invariant-loop-tile l = record {
  room : length l.owners ≡ 25;
  each : (t : ℕ) → t < l.tile → AreOwners l.side (parts_shown l.tables) t (slice_index l.owners t);
}
