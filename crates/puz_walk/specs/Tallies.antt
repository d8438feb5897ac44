-- What a walk over sums keeps of a board: for each set its sum, and what its members say.
use Rattle.std.specs.Prelude.{◌≡◌, ℕ, ◌+◌, ◌*◌, ◌<◌, true, List, length, slice_get, slice_index, Some}
use Rattle.puz_board.specs.Boards.{IsBoardOf, at, blank, slid}
use Rattle.puz_board.specs.Cells.{Adjacent}
use Rattle.tab_rule.specs.declared.tables.Count.TheVariants.{Finite}
use Rattle.set_sum.specs.Bundles.{ShownBundle, BundleSays, set_of}
use Rattle.set_sum.specs.Known.{place_of, said_by}
use Rattle.set_sum.specs.Members.{MemberSays}
use Rattle.set_sum.specs.Owners.{has_tile}
use Rattle.set_sum.specs.declared.members.Member.{Member}
use Rattle.puz_walk.specs.StoredWords.{AreOwnersOf}
use Rattle.puz_walk.specs.declared.tallies.Tally.{Tally}

-- ---- a board

-- where the entry of a member of a set is kept
abbrev pub entry_place : ℕ → Member → ℕ
entry_place set m = 32 * set + place_of m

-- the entry of each member of the set is what the member says
abbrev pub AreEntriesOf : ShownBundle → List ℕ → List ℕ → ℕ → Type 0
AreEntriesOf v b entries set =
    (number : ℕ) (m : Member) → slice_get (set_of v set) number ≡ Some m → MemberSays v.tables m b (said_by (slice_index entries (entry_place set m)))

-- the sum of the set is kept, and the entries of its members
pub record IsTallied (v : ShownBundle) (b sums entries : List ℕ) (set : ℕ) : Type 0 where
  pub says : BundleSays v set b (Finite (slice_index sums set))
  pub are : AreEntriesOf v b entries set

-- of each set it is kept, and the owner of each tile; the set that is asked first is one of the bundle's
pub record AreTallied (v : ShownBundle) (b : List ℕ) (tally : Tally) : Type 0 where
  pub sums_room : length tally.sums ≡ 16
  pub entries_room : length tally.entries ≡ 512
  pub owners : AreOwnersOf v tally.owners
  pub first : tally.first < length v.sets
  pub each : (set : ℕ) → set < length v.sets → IsTallied v b tally.sums tally.entries set

-- ---- a move

-- a move of the tile leads from board b to the next one
pub record IsSlideOf (v : ShownBundle) (b next : List ℕ) (tile : ℕ) : Type 0 where
  pub board : IsBoardOf v.side b
  pub near : Adjacent v.side (blank b) (blank next)
  pub leads : slid b (blank next) ≡ next
  pub tile_is : tile ≡ at b (blank next)

-- a member of the set that has the tile says of the board what the entry says
abbrev pub IsTold : ShownBundle → List ℕ → ℕ → ℕ → ℕ → Type 0
IsTold v b tile set entry =
    (number : ℕ) (m : Member) → slice_get (set_of v set) number ≡ Some m → has_tile v.side v.tables m tile ≡ true → MemberSays v.tables m b (said_by entry)

-- the same of each set and its entry
pub record AreTold (v : ShownBundle) (b : List ℕ) (tile : ℕ) (told : List ℕ) : Type 0 where
  pub room : length told ≡ 16
  pub each : (set : ℕ) → set < length v.sets → IsTold v b tile set (slice_index told set)

-- ---- limits

-- the set has a sum, which is below the limit
pub record IsLow (v : ShownBundle) (b : List ℕ) (limit set : ℕ) : Type 0 where
  pub sum : ℕ
  pub says : BundleSays v set b (Finite sum)
  pub low : sum < limit

-- the same of each set
abbrev pub AreLow : ShownBundle → List ℕ → ℕ → Type 0
AreLow v b limit = (set : ℕ) → set < length v.sets → IsLow v b limit set
