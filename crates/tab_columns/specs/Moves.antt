-- Entries one move away, move by move.
use Rattle.std.specs.Prelude.{◌≡◌, ◌≢◌, ℕ, ◌<◌, List, length, slice_index, slice_set, Some}
use Rattle.puz_board.specs.Cells.{step_of}
use Rattle.puz_board.specs.declared.moves.Move.{Move}
use Rattle.puz_board.specs.Masks.{IsMaskOf}
use Rattle.pat_place.specs.Placements.{ShownPlacement, IsPlacement}
use Rattle.pat_place.specs.Regions.{IsSlot}
use Rattle.tab_file.specs.Tables.{Table, IsTable, slot_count}
use Rattle.tab_rule.specs.Entries.{IsEntryAt}
use Rattle.tab_file.specs.EntryBytes.{no_way_home}
use Rattle.tab_rule.specs.LocalRule.{IsLeastOf, MayMove}

-- a tile of a placement of the table's pattern, by its index, and the cell that it is in
abbrev pub IsTileIn : Table → ShownPlacement → ℕ → ℕ → Type 0
IsTileIn t p index cell = IsTable t × (p.pattern ≡ t.pattern) × IsPlacement p × (index < length p.cells) × (slice_index p.cells index ≡ cell)

-- the mask has the cells of the slot
abbrev pub IsRegion : ℕ → List ℕ → ℕ → ℕ → Type 0
IsRegion n cells j mask = IsMaskOf mask (λ c. IsSlot n cells c j)

-- e is the entry after a move of the tile with this index
pub record IsEntryAfter (t : Table) (cells : List ℕ) (j index e : ℕ) : Type 0 where
  pub to : ℕ
  pub moves : MayMove t.pattern.side cells j index to
  pub entry : IsEntryAt t (slice_set cells index to) (slice_index cells index) e

-- the same for a move in this direction
pub record IsEntryTowards (t : Table) (cells : List ℕ) (j index : ℕ) (mv : Move) (e : ℕ) : Type 0 where
  pub to : ℕ
  pub steps : step_of t.pattern.side (slice_index cells index) mv ≡ Some to
  pub moves : MayMove t.pattern.side cells j index to
  pub entry : IsEntryAt t (slice_set cells index to) (slice_index cells index) e

-- e is the entry after a move of one of the first tiles
pub record IsEntryAmong (t : Table) (cells : List ℕ) (j count e : ℕ) : Type 0 where
  pub index : ℕ
  pub low : index < count
  pub after : IsEntryAfter t cells j index e

-- ---- one tile and one direction, over all slots

-- there is no entry after that move in any slot
abbrev pub NoneTowards : Table → List ℕ → ℕ → Move → Type 0
NoneTowards t cells index mv = (j : ℕ) → j < slot_count t.pattern → IsLeastOf (IsEntryTowards t cells j index mv) no_way_home

-- e is the entry after that move in this slot, and there is none in any other
pub record IsFoundTowards (t : Table) (cells : List ℕ) (index : ℕ) (mv : Move) (slot e : ℕ) : Type 0 where
  pub low : slot < slot_count t.pattern
  pub here : IsLeastOf (IsEntryTowards t cells slot index mv) e
  pub others : (j : ℕ) → j < slot_count t.pattern → j ≢ slot → IsLeastOf (IsEntryTowards t cells j index mv) no_way_home
