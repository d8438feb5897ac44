-- How a table of slots is stored: for each set of cells, by its number, the set's mask and the slots of the free cells.
use Rattle.std.specs.Prelude.{◌≡◌, ℕ, true, ◌+◌, ◌*◌, ◌<◌, ◌≤◌, List, length, slice_index}
use Rattle.puz_board.specs.Masks.{IsMaskOf}
use Rattle.pat_place.specs.Patterns.{has}
use Rattle.pat_place.specs.Regions.{IsSlot}
use Rattle.pat_place.specs.declared.slot_tables.SlotTable.TheInside.{Inside}

-- the slots of the free cells, in the order of the cells
abbrev pub AreSlots : ℕ → List ℕ → List ℕ → Type 0
AreSlots n p slots = (c j : ℕ) → IsSlot n p c j → slice_index slots c ≡ j

-- they stand from here on
abbrev pub AreSlotsFrom : ℕ → List ℕ → List ℕ → ℕ → Type 0
AreSlotsFrom n p slots start = (c j : ℕ) → IsSlot n p c j → slice_index slots (start + c) ≡ j

-- each set that is kept has the slots of its mask: the order of the cells is all the same
pub record AreAllSlots (n : ℕ) (masks slots : List ℕ) : Type 0 where
  pub size : length slots ≡ length masks * (n * n)
  pub each : (number : ℕ) (p : List ℕ) → number < length masks → IsMaskOf (slice_index masks number) (λ c. has p c ≡ true) →
      AreSlotsFrom n p slots (number * (n * n))

-- what a contract sees of a table of slots: the side of its boards
abbrev pub side_shown : Inside → ℕ
side_shown s = s.side

-- these are the fields of a table of slots
pub record IsStoredSlots (s : Inside) : Type 0 where
  pub low : 2 ≤ s.side
  pub high : s.side ≤ 5
  pub few : s.cells ≡ s.side * s.side
  pub slots : AreAllSlots s.side s.masks.items s.slots.items
