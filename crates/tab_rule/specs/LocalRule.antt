-- The local rule: an entry and the entries one move of a pattern's tile away.
use Rattle.std.specs.Prelude.{◌≡◌, ℕ, ◌<◌, ◌≤◌, ◌⊎◌, List, length, slice_index, slice_set}
use Rattle.puz_board.specs.Cells.{Adjacent}
use Rattle.pat_place.specs.Patterns.{ShownPattern}
use Rattle.pat_place.specs.Regions.{IsSlot}
use Rattle.tab_file.specs.EntryRules.{KeepsRuleOfKind, goal_slot, other_slot, without_region}
use Rattle.tab_file.specs.Tables.{Table}
use Rattle.tab_rule.specs.Entries.{HasNoRegion, HasRegion, IsEntryAt}
use Rattle.tab_file.specs.EntryBytes.{no_way_home}

-- the tile with this index is adjacent to a cell of the slot's region, to which it may move
pub record MayMove (n : ℕ) (cells : List ℕ) (j index to : ℕ) : Type 0 where
  pub in_slot : IsSlot n cells to j
  pub is_index : index < length cells
  pub adjacent : Adjacent n to (slice_index cells index)

-- e is an entry one move away: that of the placement after the move, and of the region that has the cell which the tile left
pub record IsNearEntry (t : Table) (cells : List ℕ) (j e : ℕ) : Type 0 where
  pub index : ℕ
  pub to : ℕ
  pub moves : MayMove t.pattern.side cells j index to
  pub entry : IsEntryAt t (slice_set cells index to) (slice_index cells index) e

-- m is the least number with the property, or that of no way home, 255, where none is smaller
pub record IsLeastOf (Has : ℕ → Type 0) (m : ℕ) : Type 0 where
  pub most : m ≤ no_way_home
  pub least : (e : ℕ) → Has e → m ≤ e
  pub reached : (m ≡ no_way_home) ⊎ Has m

-- m is the least entry one move away, and 255 where there is none
abbrev pub IsLeastNear : Table → List ℕ → ℕ → ℕ → Type 0
IsLeastNear t cells j = IsLeastOf (IsNearEntry t cells j)

-- each tile is in the cell of its own number, and cell 0 has the slot
abbrev pub IsGoalSlot : ShownPattern → List ℕ → ℕ → Type 0
IsGoalSlot p cells j = (cells ≡ p.tiles) × IsSlot p.side cells 0 j

-- the kind of a slot, as a number
pub data IsKindOf (p : ShownPattern) (cells : List ℕ) (j kind : ℕ) : Type 0 where
  no_region : HasNoRegion p.side cells j → kind ≡ without_region → IsKindOf p cells j kind
  goal : IsGoalSlot p cells j → kind ≡ goal_slot → IsKindOf p cells j kind
  other : HasRegion p.side cells j → ¬ IsGoalSlot p cells j → kind ≡ other_slot → IsKindOf p cells j kind

-- the rule for the entry e of a placement and a slot: that of the slot's kind and of the least entry one move away
pub record LocalRule (t : Table) (cells : List ℕ) (j e : ℕ) : Type 0 where
  pub kind : ℕ
  pub is_kind : IsKindOf t.pattern cells j kind
  pub least : ℕ
  pub is_least : IsLeastNear t cells j least
  pub keeps : KeepsRuleOfKind kind least e
