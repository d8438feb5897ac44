-- How the rows of all cells for one set of cells are filled, and what is kept of its slots.
use Rattle.std.specs.Prelude.{◌≡◌, ◌≢◌, ℕ, ◌+◌, ◌-◌, ◌*◌, ◌<◌, ◌≤◌, ◌⊎◌, List, ltb, length, slice_index}
use Rattle.std.specs.Int.{bit_at, from_bool}
use Rattle.pat_place.specs.Patterns.{ShownPattern, width}
use Rattle.pat_place.specs.Placements.{IsFree}
use Rattle.pat_place.specs.Regions.{IsSlot}
use Rattle.tab_file.specs.Tables.{slot_count}
use Rattle.tab_file.specs.EntryRules.{other_slot}
use Rattle.tab_runs.specs.Kinds.{TellsRegion}
use Rattle.tab_runs.specs.Rows.{IsOpen, listed_below, place_in_run, row_length}
use Rattle.tab_runs.specs.Runs.{free_below, with_last}

-- how many cells below c the row of x lists, where `free` cells below c are free
abbrev pub listed_of : ℕ → ℕ → ℕ → ℕ
listed_of c free x = free - from_bool (ltb x c)

-- one of the regions has the cell
abbrev pub IsInSome : List ℕ → ℕ → Type 0
IsInSome regions x = (j : ℕ) × (j < length regions) × (bit_at (slice_index regions j) x ≡ 1)

-- a byte that has the number of a region with the cell, counted from `before`
abbrev pub IsNumbered : List ℕ → ℕ → ℕ → ℕ → Type 0
IsNumbered regions before x byte = (j : ℕ) × (j < length regions) × (bit_at (slice_index regions j) x ≡ 1) × (byte ≡ before + j)

-- of the first `count` rows of m bytes those whose cell is in some region have its number for c, and all other bytes are
-- as they were
pub record IsColumn (m c free before : ℕ) (regions : List ℕ) (count : ℕ) (old new : List ℕ) : Type 0 where
  pub filled : (x : ℕ) → x < count → IsInSome regions x → IsNumbered regions before x (slice_index new (x * m + listed_of c free x))
  pub others : (i : ℕ) → ((x : ℕ) → x < count → IsInSome regions x → i ≢ x * m + listed_of c free x) → slice_index new i ≡ slice_index old i

-- the rows of all cells, filled for the first `count` cells of the last tile
pub record AreRowsUpTo (n k : ℕ) (p : List ℕ) (count : ℕ) (block : List ℕ) : Type 0 where
  pub size : length block ≡ n * n * row_length n k
  pub filled : (x c j : ℕ) → c < count → IsOpen n p x c → IsSlot n (with_last p c) x j →
      slice_index block (x * row_length n k + listed_below p x c) ≡ place_in_run (width n k) p c j

-- the same for all cells, of a run of the pattern
abbrev pub AreRowsOfRun : ShownPattern → List ℕ → List ℕ → Type 0
AreRowsOfRun p cells block = AreRowsUpTo p.side (length p.tiles) cells (p.side * p.side) block

-- ---- which slots have a region

-- the bytes from one place on are those of slots with a region, and the others are as they were
pub record AreMarked (at count : ℕ) (old new : List ℕ) : Type 0 where
  pub len : length new ≡ length old
  pub inside : (i : ℕ) → at ≤ i → i < at + count → slice_index new i ≡ other_slot
  pub outside : (i : ℕ) → (i < at) ⊎ (at + count ≤ i) → slice_index new i ≡ slice_index old i

-- the bytes of the placements with the last tile in one of the first `count` cells
pub record AreKindsUpTo (n w : ℕ) (p : List ℕ) (count : ℕ) (kinds : List ℕ) : Type 0 where
  pub filled : (c j : ℕ) → c < count → IsFree n p c → j < w → TellsRegion n (with_last p c) j (slice_index kinds (free_below p c * w + j))
  pub empty : (c j : ℕ) → ¬ (c < count) → IsFree n p c → j < w → slice_index kinds (free_below p c * w + j) ≡ 0

-- the same for all cells, of a run of the pattern
abbrev pub AreKindsOfRun : ShownPattern → List ℕ → List ℕ → Type 0
AreKindsOfRun p cells kinds = AreKindsUpTo p.side (slot_count p) cells (p.side * p.side) kinds
