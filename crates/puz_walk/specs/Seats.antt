-- What a walk reads and changes of a set when a move moves a tile.
use Rattle.std.specs.Prelude.{◌≡◌, ℕ, ◌+◌, ◌*◌, ◌<◌, ◌≤◌, ◌⊎◌, List, length, slice_index_or}
use Rattle.puz_board.specs.declared.moves.Move.{Move}
use Rattle.edge_words.specs.Spots.{IsIndexStep}
use Rattle.edge_words.specs.Words.{bit_number, way_of}
use Rattle.set_sum.specs.Bundles.{ShownBundle}
use Rattle.puz_walk.specs.StoredWords.{HasNoOwner, IsOwner, move_for}
use Rattle.puz_walk.specs.WordBundles.{most_worded, pattern_at}
use Rattle.puz_walk.specs.WordSpots.{member_place}
use Rattle.puz_walk.specs.declared.owners.Owner.{Owner}
use Rattle.puz_walk.specs.declared.seats.Seat.{Seat}

-- where the seat of a tile in a set is kept for a move
abbrev pub seat_place : ℕ → ℕ → Move → ℕ
seat_place set tile move = 128 * set + 4 * tile + way_of move

-- what is read and changed by the move of a tile with this owner
pub record IsSeatFor (v : ShownBundle) (set : ℕ) (owner : Owner) (move : Move) (seat : Seat) : Type 0 where
  pub table : seat.table ≡ owner.member.table
  pub place : seat.place ≡ member_place set owner.member
  pub bit : seat.bit ≡ bit_number owner.tile (move_for owner.member move)
  pub owners : seat.owners ≡ 1
  pub step : IsIndexStep (pattern_at v owner.member.table) owner.tile (move_for owner.member move) seat.step

-- the seat of a tile that a member of the set has
pub record IsOwnedSeat (v : ShownBundle) (set tile : ℕ) (move : Move) (seat : Seat) : Type 0 where
  pub owner : Owner
  pub owns : IsOwner v set tile owner
  pub is : IsSeatFor v set owner move seat

-- a seat that nobody has: its table is none of a bundle with words, and its place is the first one of the set
pub record IsVacant (set : ℕ) (seat : Seat) : Type 0 where
  pub table : most_worded ≤ seat.table
  pub place : seat.place ≡ 16 * set
  pub bit : seat.bit ≡ 0
  pub owners : seat.owners ≡ 0

-- the seat of a tile that no member of the set has
pub record IsFreeSeat (v : ShownBundle) (set tile : ℕ) (seat : Seat) : Type 0 where
  pub none : HasNoOwner v set tile
  pub vacant : IsVacant set seat

-- the seat of the tile in the set for the move
abbrev pub IsSeatOf : ShownBundle → ℕ → ℕ → Move → Seat → Type 0
IsSeatOf v set tile move seat = IsOwnedSeat v set tile move seat ⊎ IsFreeSeat v set tile seat

-- for each set, tile and move there is the seat
pub record AreSeatsOf (v : ShownBundle) (seats : List Seat) : Type 0 where
  pub room : length seats ≡ 2048
  pub each : (set tile : ℕ) (move : Move) (none : Seat) → set < length v.sets → tile < v.side * v.side
      → IsSeatOf v set tile move (slice_index_or seats (seat_place set tile move) none)
