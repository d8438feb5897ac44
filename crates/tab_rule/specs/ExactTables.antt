-- Exact tables: each entry says the least cost of every board of its placement and region, over all paths of whole boards.
use Rattle.std.specs.Prelude.{◌≡◌, ℕ, ◌≤◌, ◌⊎◌, List, slice_index}
use Rattle.puz_board.specs.Boards.{IsBoardOf, blank}
use Rattle.puz_board.specs.Costs.{IsLeastCost, IsNeverHome}
use Rattle.pat_place.specs.Patterns.{ShownPattern}
use Rattle.pat_place.specs.Placements.{placement_of}
use Rattle.pat_place.specs.Regions.{IsSlot}
use Rattle.tab_file.specs.TableFiles.{IsTableFile}
use Rattle.tab_file.specs.Tables.{Table, IsTable}
use Rattle.tab_rule.specs.Entries.{IsEntryNumber}

-- an entry says the least cost of a board, which is 253 at most, or by 255 that no path leads its tiles home
abbrev pub SaysOfBoard : List ℕ → List ℕ → ℕ → Type 0
SaysOfBoard tiles b e = ((e ≤ 253) × IsLeastCost tiles b e) ⊎ ((e ≡ 255) × IsNeverHome tiles b)

-- an entry is right: 254 where the slot has no region, and otherwise what it says holds of every board with this
-- placement and its blank in this slot's region
pub record IsExactEntry (p : ShownPattern) (cells : List ℕ) (j e : ℕ) : Type 0 where
  pub no_region : ((c : ℕ) → ¬ IsSlot p.side cells c j) → e ≡ 254
  pub boards : (b : List ℕ) → IsBoardOf p.side b → placement_of p.tiles b ≡ cells → IsSlot p.side cells (blank b) j → SaysOfBoard p.tiles b e

-- each entry is right
abbrev pub AreExact : Table → Type 0
AreExact t =
    (cells : List ℕ) (j number : ℕ) → IsEntryNumber t.pattern cells j number → IsExactEntry t.pattern cells j (slice_index t.entries number)

-- the bytes are the file of the table, and each of its entries is right
pub record IsExactFile (t : Table) (file : List ℕ) : Type 0 where
  pub is_file : IsTableFile t file
  pub exact : AreExact t

-- a table whose entries are all right
pub record IsExactTable (t : Table) : Type 0 where
  pub is_table : IsTable t
  pub exact : AreExact t
