-- What members look up, the members that have a tile, and where moves lead.
use Rattle.std.specs.Prelude.{◌≡◌, ℕ, ◌+◌, ◌*◌, ◌<◌, false, if◌then◌else◌, List, length, slice_get, slice_index, slice_index_or, MatchOption, Option, Some, None}
use Rattle.std.specs.List.{AllByRecursion}
use Rattle.puz_board.specs.Cells.{step_of}
use Rattle.puz_board.specs.Costs.{has}
use Rattle.puz_board.specs.Transposing.{transposed_cell}
use Rattle.puz_board.specs.declared.moves.Move.{Move}
use Rattle.puz_board.specs.declared.moves.Move.TheVariants.{Up, Down, Left, Right}
use Rattle.edge_words.specs.Words.{way_of}
use Rattle.set_sum.specs.Bundles.{ShownBundle, set_of}
use Rattle.set_sum.specs.Members.{table_pattern}
use Rattle.set_sum.specs.declared.members.Member.{Member}
use Rattle.puz_walk.specs.declared.owners.Owner.{Owner}

-- ---- what a member looks up

-- the cell, or the tile, that a member looks up: this one, or its transposed one
abbrev pub cell_for : ℕ → Member → ℕ → ℕ
cell_for n m cell = if m.is_transposed then transposed_cell n cell else cell

-- the move with rows and columns exchanged
abbrev pub transposed_move : Move → Move
transposed_move Up = Left
transposed_move Down = Right
transposed_move Left = Up
transposed_move Right = Down

-- the move by which the board moves that a member looks up
abbrev pub move_for : Member → Move → Move
move_for m move = if m.is_transposed then transposed_move move else move

-- ---- the members that have a tile

-- a member of the set, whose pattern has the tile: with this index in its table's pattern
pub record IsOwner (v : ShownBundle) (set tile : ℕ) (owner : Owner) : Type 0 where
  pub number : ℕ
  pub member : slice_get (set_of v set) number ≡ Some owner.member
  pub low : owner.tile < length (table_pattern v.tables owner.member)
  pub is : slice_index (table_pattern v.tables owner.member) owner.tile ≡ cell_for v.side owner.member tile

-- no pattern of the set's members has the tile
abbrev pub HasNoOwner : ShownBundle → ℕ → ℕ → Type 0
HasNoOwner v set tile = AllByRecursion (λ m. has (table_pattern v.tables m) (cell_for v.side m tile) ≡ false) (set_of v set)

-- the member of the set that has the tile, and none where no member has it
abbrev pub IsOwnerOf : ShownBundle → ℕ → ℕ → Option Owner → Type 0
IsOwnerOf v set tile owner = MatchOption owner (HasNoOwner v set tile) (IsOwner v set tile)

-- for each set and tile there is the member of the set that has the tile
pub record AreOwnersOf (v : ShownBundle) (owners : List (Option Owner)) : Type 0 where
  pub room : length owners ≡ 512
  pub each : (set tile : ℕ) → set < length v.sets → tile < v.side * v.side → IsOwnerOf v set tile (slice_index_or owners (32 * set + tile) None)

-- ---- moves

-- for each cell and move there is the cell to which it leads
pub record AreWaysOf (n : ℕ) (ways : List (Option ℕ)) : Type 0 where
  pub room : length ways ≡ 100
  pub each : (cell : ℕ) (move : Move) → cell < n * n → slice_index_or ways (4 * cell + way_of move) None ≡ step_of n cell move
