-- Entries of a table: one for each placement and slot, rank by rank, and slot by slot within a rank.
use Rattle.std.specs.Prelude.{◌≡◌, ℕ, ◌+◌, ◌*◌, ◌<◌, List, length, slice_get, slice_index, Some}
use Rattle.pat_place.specs.Patterns.{ShownPattern}
use Rattle.pat_place.specs.Ranks.{placements}
use Rattle.pat_place.specs.Regions.{IsSlot}
use Rattle.tab_file.specs.Tables.{Table, slot_count}

-- the number of the entry of a placement and a slot: the placement is the one that stands at this rank in the list of all
-- placements, and each of them has an entry for each slot
pub record IsEntryNumber (p : ShownPattern) (cells : List ℕ) (j number : ℕ) : Type 0 where
  pub rank : ℕ
  pub is_placement : slice_get (placements p.side (length p.tiles)) rank ≡ Some cells
  pub slot : j < slot_count p
  pub counted : number ≡ rank * slot_count p + j

-- the number of the entry of the goal's placement and of the region that has cell 0
pub record IsGoalNumber (p : ShownPattern) (number : ℕ) : Type 0 where
  pub slot : ℕ
  pub in_slot : IsSlot p.side p.tiles 0 slot
  pub is_number : IsEntryNumber p p.tiles slot number

-- the slot has a region: a cell of that slot
pub record HasRegion (n : ℕ) (cells : List ℕ) (j : ℕ) : Type 0 where
  pub cell : ℕ
  pub in_slot : IsSlot n cells cell j

-- the slot has no region
abbrev pub HasNoRegion : ℕ → List ℕ → ℕ → Type 0
HasNoRegion n cells j = (c : ℕ) → ¬ IsSlot n cells c j

-- e is the entry of the placement and of the region of cell c
pub record IsEntryAt (t : Table) (cells : List ℕ) (c e : ℕ) : Type 0 where
  pub slot : ℕ
  pub is_slot : IsSlot t.pattern.side cells c slot
  pub number : ℕ
  pub is_number : IsEntryNumber t.pattern cells slot number
  pub holds : slice_index t.entries number ≡ e
