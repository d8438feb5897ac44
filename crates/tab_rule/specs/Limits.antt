-- Tables that end at a count: what costs more has the entry of no way home.
use Rattle.std.specs.Prelude.{◌≡◌, ℕ, suc, ◌<◌, List, slice_index}
use Rattle.puz_board.specs.Boards.{IsBoardOf}
use Rattle.puz_board.specs.Costs.{IsLeastCost}
use Rattle.pat_place.specs.Patterns.{ShownPattern}
use Rattle.tab_file.specs.EntryBytes.{no_region_entry, no_way_home}
use Rattle.tab_file.specs.Tables.{Table}
use Rattle.tab_file.specs.EntryRules.{goal_slot, other_slot, without_region}
use Rattle.tab_rule.specs.Entries.{IsEntryNumber}
use Rattle.tab_rule.specs.LocalRule.{IsKindOf, IsLeastNear}

-- ---- the local rule up to a count, by numbers

-- the entry is past the count: it is 255, though the least entry one move away is the count
pub record IsPast (most kind least entry : ℕ) : Type 0 where
  pub is_other : kind ≡ other_slot
  pub is_most : least ≡ most
  pub is_never : entry ≡ no_way_home

-- by cases, as the local rule has them: counts go up to `most`, and an entry may be past it
pub data KeepsRuleUpTo (most kind least entry : ℕ) : Type 0 where
  no_region : kind ≡ without_region → entry ≡ no_region_entry → KeepsRuleUpTo most kind least entry
  goal : kind ≡ goal_slot → entry ≡ 0 → KeepsRuleUpTo most kind least entry
  one_more : kind ≡ other_slot → least < most → entry ≡ suc least → KeepsRuleUpTo most kind least entry
  never : kind ≡ other_slot → least ≡ no_way_home → entry ≡ no_way_home → KeepsRuleUpTo most kind least entry
  past : IsPast most kind least entry → KeepsRuleUpTo most kind least entry

-- ---- entries of a table

-- this holds of the kind of the slot, of the least entry one move away, and of the entry e of a placement and a slot
pub record Ruled (Rule : ℕ → ℕ → ℕ → Type 0) (t : Table) (cells : List ℕ) (j e : ℕ) : Type 0 where
  pub kind : ℕ
  pub is_kind : IsKindOf t.pattern cells j kind
  pub least : ℕ
  pub is_least : IsLeastNear t cells j least
  pub holds : Rule kind least e

-- the entry with this number keeps the rule up to the count
abbrev pub EntryKeepsUpTo : ℕ → Table → ℕ → Type 0
EntryKeepsUpTo most t number =
    (cells : List ℕ) (j : ℕ) → IsEntryNumber t.pattern cells j number → Ruled (KeepsRuleUpTo most) t cells j (slice_index t.entries number)

-- the entry with this number is past the count
pub record IsPastEntry (most : ℕ) (t : Table) (number : ℕ) : Type 0 where
  pub cells : List ℕ
  pub slot : ℕ
  pub is_number : IsEntryNumber t.pattern cells slot number
  pub past : Ruled (IsPast most) t cells slot (slice_index t.entries number)

-- each entry keeps the rule up to the count, and some entry is past it
pub record IsPassed (most : ℕ) (t : Table) : Type 0 where
  pub keeps : (number : ℕ) → EntryKeepsUpTo most t number
  pub number : ℕ
  pub past : IsPastEntry most t number

-- ---- boards

-- some board of the pattern's side has this least cost
pub record HasBoardOfCost (p : ShownPattern) (d : ℕ) : Type 0 where
  pub board : List ℕ
  pub is_board : IsBoardOf p.side board
  pub costs : IsLeastCost p.tiles board d
