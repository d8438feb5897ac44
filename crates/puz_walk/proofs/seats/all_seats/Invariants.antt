use Rattle.std.proofs.Common.{◌≡◌, ℕ, ◌<◌, ◌*◌, ◌/◌, ◌%◌, length, get_or}
use Rattle.edge_words.specs.Words.{move_of}
use Rattle.puz_walk.specs.Seats.{IsSeatOf}
use Rattle.puz_walk.specs.declared.seats.Seat.{Seat}
use Rattle.puz_walk.proofs.seats.all_seats.Given as goal

-- the places up to this one have their seats
abbrev pub invariant-loop-place : goal.invariant-loop-place
invariant-loop-place l = record {
  room : length l.seats ≡ 2048;
  each : (k : ℕ) (none : Seat) → k < l.place → k / 4 % 32 < l.bundle.side * l.bundle.side
      → IsSeatOf l.bundle (k / 128) (k / 4 % 32) (move_of k) (get_or l.seats k none);
}
