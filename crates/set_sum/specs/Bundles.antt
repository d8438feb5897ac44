-- Bundles: tables of one side, and sets of disjoint members among them.
use Rattle.std.specs.Prelude.{ℕ, ◌*◌, ◌<◌, ◌≤◌, Bool, List, [], length, slice_index_or}
use Rattle.std.specs.List.{AllByRecursion}
use Rattle.puz_board.specs.Boards.{IsBoardOf}
use Rattle.pat_place.specs.Patterns.{IsPattern}
use Rattle.tab_rule.specs.declared.tables.Count.{Count}
use Rattle.set_sum.specs.Bounds.{CountReaches}
use Rattle.set_sum.specs.Members.{patterns_of_set, table_pattern}
use Rattle.set_sum.specs.Raised.{told_of}
use Rattle.set_sum.specs.Parts.{ShownPart}
use Rattle.set_sum.specs.Sums.{AreDisjoint, SetSays}
use Rattle.set_sum.specs.declared.members.Member.{Member}

-- ---- limits

-- the most tables of a bundle
abbrev pub most_tables : ℕ
most_tables = 16

-- the most members of a set, two for each table
abbrev pub most_members : ℕ
most_members = 2 * most_tables

-- the most sets of a bundle, each of which has a line in its text
abbrev pub most_sets : ℕ
most_sets = 16

-- ---- what is seen

-- what a contract sees of a bundle: the side of its boards, its tables, and its sets, each the list of its members
pub record ShownBundle : Type 0 where
  pub side : ℕ
  pub tables : List ShownPart
  pub sets : List (List Member)

-- some members, of tables with patterns of side n, whose own patterns are disjoint
pub record IsSetOf (n : ℕ) (tables : List ShownPart) (set : List Member) : Type 0 where
  pub some : 0 < length set
  pub patterns : AllByRecursion (λ m. IsPattern (record { side = n; tiles = table_pattern tables m })) set
  pub disjoint : AreDisjoint (patterns_of_set n tables set)

-- ---- what a bundle's sets say of a board

-- the set with this number
abbrev pub set_of : ShownBundle → ℕ → List Member
set_of v number = slice_index_or v.sets number []

-- the set with this number is there, and says this of the board
pub record BundleSays (v : ShownBundle) (number : ℕ) (b : List ℕ) (count : Count) : Type 0 where
  pub there : number < length v.sets
  pub says : SetSays v.tables (set_of v number) b count

-- each set says something of each board of the side
abbrev pub TellsOfAll : ShownBundle → Type 0
TellsOfAll v = (number : ℕ) → number < length v.sets → (b : List ℕ) → IsBoardOf v.side b → (count : Count) × BundleSays v number b count

-- the set with this number is there, and what it says of the board, taken by parity or not, is never or at least r
pub record SaysAtLeast (v : ShownBundle) (by_parity : Bool) (number : ℕ) (b : List ℕ) (r : ℕ) : Type 0 where
  pub count : Count
  pub says : BundleSays v number b count
  pub enough : CountReaches (told_of by_parity b count) r

-- ---- bundles

-- a side from 2 to 5, and some tables and some sets, no more of each than a bundle may have; a set is of members whose
-- tables are there and have patterns of that side, their own patterns are disjoint, and it says something of each board
pub record IsBundle (v : ShownBundle) : Type 0 where
  pub low : 2 ≤ v.side
  pub high : v.side ≤ 5
  pub some_tables : 0 < length v.tables
  pub few_tables : length v.tables ≤ most_tables
  pub some_sets : 0 < length v.sets
  pub few_sets : length v.sets ≤ most_sets
  pub there : AllByRecursion (AllByRecursion (λ m. m.table < length v.tables)) v.sets
  pub each : AllByRecursion (IsSetOf v.side v.tables) v.sets
  pub told : TellsOfAll v
