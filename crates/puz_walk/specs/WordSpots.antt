-- Where a walk stands: the board, and for each set its sum, and the indexes and words of its members.
use Rattle.std.specs.Prelude.{◌≡◌, ℕ, ◌+◌, ◌*◌, ◌<◌, Bool, true, false, List, length, take, slice_get, slice_index, Option, Some, None}
use Rattle.puz_board.specs.Boards.{IsBoardOf, blank, moved}
use Rattle.puz_board.specs.declared.moves.Move.{Move}
use Rattle.tab_rule.specs.declared.tables.Count.TheVariants.{Finite}
use Rattle.pat_place.specs.Patterns.{ShownPattern}
use Rattle.edge_words.specs.Spots.{IsWordOn, index_on}
use Rattle.set_sum.specs.Bundles.{ShownBundle, BundleSays, set_of}
use Rattle.set_sum.specs.Known.{place_of}
use Rattle.set_sum.specs.Members.{board_for}
use Rattle.set_sum.specs.declared.members.Member.{Member}
use Rattle.puz_walk.specs.WordBundles.{pattern_at}
use Rattle.puz_walk.specs.declared.word_spots.Kept.{Kept}
use Rattle.puz_walk.specs.declared.word_spots.Spot.{Spot}

-- where the index and the word of a member of a set are kept
abbrev pub member_place : ℕ → Member → ℕ
member_place set m = 16 * set + place_of m

-- the index and the word of the placement that the pattern's tiles have on a board
pub record IsFoundOn (p : ShownPattern) (b : List ℕ) (index word : ℕ) : Type 0 where
  pub index_is : index ≡ index_on p b
  pub word_is : IsWordOn p b word

-- the index and the word of each member of the set are those of the board that it looks up
abbrev pub AreKeptOf : ShownBundle → List ℕ → Kept → ℕ → Type 0
AreKeptOf v b kept set =
    (number : ℕ) (m : Member) → slice_get (set_of v set) number ≡ Some m
    → IsFoundOn (pattern_at v m.table) (board_for m b) (slice_index kept.indexes (member_place set m)) (slice_index kept.words (member_place set m))

-- the same of each set
abbrev pub AreAllKept : ShownBundle → List ℕ → Kept → Type 0
AreAllKept v b kept = (set : ℕ) → set < length v.sets → AreKeptOf v b kept set

-- the sum of the set is kept, and what its members look up
pub record IsKept (v : ShownBundle) (b sums : List ℕ) (kept : Kept) (set : ℕ) : Type 0 where
  pub says : BundleSays v set b (Finite (slice_index sums set))
  pub are : AreKeptOf v b kept set

-- there are places for the members of 16 sets
pub record HasPlaces (kept : Kept) : Type 0 where
  pub indexes_room : length kept.indexes ≡ 256
  pub words_room : length kept.words ≡ 256

-- there is room for 16 sets
pub record IsRoomy (sums : List ℕ) (kept : Kept) : Type 0 where
  pub sums_room : length sums ≡ 16
  pub places : HasPlaces kept

-- of each set it is kept
pub record AreKept (v : ShownBundle) (b sums : List ℕ) (kept : Kept) : Type 0 where
  pub room : IsRoomy sums kept
  pub each : (set : ℕ) → set < length v.sets → IsKept v b sums kept set

-- the board stands here
pub record IsSpotOf (v : ShownBundle) (b : List ℕ) (spot : Spot) : Type 0 where
  pub board : IsBoardOf v.side b
  pub space : length spot.numbers ≡ 25
  pub numbers : take (v.side * v.side) spot.numbers ≡ b
  pub blank_is : spot.blank ≡ blank b
  pub kept : AreKept v b spot.sums spot.kept

-- the move leads from board b to the next one, where the blank is in this cell
pub record IsSlideTo (v : ShownBundle) (move : Move) (b next : List ℕ) (to : ℕ) : Type 0 where
  pub board : IsBoardOf v.side b
  pub leads : moved b move ≡ Some next
  pub to_is : to ≡ blank next

-- the second number is one more, one less, or the same
abbrev pub Shifts : Option Bool → ℕ → ℕ → Type 0
Shifts (Some true) d e = e ≡ d + 1
Shifts (Some false) d e = d ≡ e + 1
Shifts None d e = e ≡ d

-- the set has a sum on both boards, which shifts so
pub record IsShift (v : ShownBundle) (b next : List ℕ) (set : ℕ) (rises : Option Bool) : Type 0 where
  pub before : ℕ
  pub after : ℕ
  pub says_before : BundleSays v set b (Finite before)
  pub says_after : BundleSays v set next (Finite after)
  pub is : Shifts rises before after
