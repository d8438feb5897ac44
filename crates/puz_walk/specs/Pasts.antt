-- What a step keeps of the board before it, by which it is taken back.
use Rattle.std.specs.Prelude.{◌≡◌, ◌≢◌, ℕ, ◌+◌, ◌*◌, ◌<◌, ◌≤◌, false, List, length, slice_get, slice_index_or, Some}
use Rattle.puz_board.specs.Costs.{has}
use Rattle.set_sum.specs.Bundles.{ShownBundle, set_of}
use Rattle.set_sum.specs.Members.{board_for, table_pattern}
use Rattle.set_sum.specs.declared.members.Member.{Member}
use Rattle.puz_walk.specs.Starts.{AreSumsOn}
use Rattle.puz_walk.specs.StoredWords.{cell_for}
use Rattle.puz_walk.specs.WordBundles.{pattern_at}
use Rattle.puz_walk.specs.WordSpots.{IsFoundOn, member_place}
use Rattle.puz_walk.specs.declared.pasts.Held.{Held}
use Rattle.puz_walk.specs.declared.pasts.Past.{Past}

-- of the member of the set whose place is held, what it looks up on the board is held; no other one has the tile
pub record IsHeldOf (v : ShownBundle) (b : List ℕ) (set tile : ℕ) (held : Held) : Type 0 where
  pub low : 16 * set ≤ held.place
  pub high : held.place < 16 * set + 16
  pub found : (number : ℕ) (m : Member) → slice_get (set_of v set) number ≡ Some m → member_place set m ≡ held.place
      → IsFoundOn (pattern_at v m.table) (board_for m b) held.index held.word
  pub others : (number : ℕ) (m : Member) → slice_get (set_of v set) number ≡ Some m → member_place set m ≢ held.place
      → has (table_pattern v.tables m) (cell_for v.side m tile) ≡ false

-- the same of each of the first two sets
pub record AreHeld (v : ShownBundle) (b : List ℕ) (tile : ℕ) (held : List Held) : Type 0 where
  pub room : length held ≡ 2
  pub each : (set : ℕ) (none : Held) → set < 2 → set < length v.sets → IsHeldOf v b set tile (slice_index_or held set none)

-- the sums are those of the board, and what a move of the tile changes is held
pub record IsPastOf (v : ShownBundle) (b : List ℕ) (tile : ℕ) (past : Past) : Type 0 where
  pub sums : AreSumsOn v b past.sums
  pub held : AreHeld v b tile past.held
