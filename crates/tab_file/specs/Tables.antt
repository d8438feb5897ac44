-- Tables: an entry for each placement of a pattern's tiles and each slot.
use Rattle.std.specs.Prelude.{◌≡◌, ℕ, ◌+◌, ◌*◌, List, length, slice_index}
use Rattle.pat_place.specs.Patterns.{ShownPattern, IsPattern, width}
use Rattle.pat_place.specs.Ranks.{placements}

-- what a contract sees of a table
pub record Table : Type 0 where
  pub pattern : ShownPattern
  pub entries : List ℕ

-- how many placements the tiles of a pattern have
abbrev pub placement_count : ShownPattern → ℕ
placement_count p = length (placements p.side (length p.tiles))

-- how many slots each placement has
abbrev pub slot_count : ShownPattern → ℕ
slot_count p = width p.side (length p.tiles)

-- how many entries a table of the pattern has
abbrev pub entry_count : ShownPattern → ℕ
entry_count p = placement_count p * slot_count p

-- it is a table of a pattern, with an entry for each placement and each slot
pub record IsTable (t : Table) : Type 0 where
  pub pattern : IsPattern t.pattern
  pub entries : length t.entries ≡ entry_count t.pattern

-- the entry of a rank and a slot: the slots of a placement stand side by side, in the order of the ranks
abbrev pub entry_at : Table → ℕ → ℕ → ℕ
entry_at t rank slot = slice_index t.entries (rank * slot_count t.pattern + slot)
