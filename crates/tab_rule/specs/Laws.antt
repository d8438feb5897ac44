-- What holds of every table, and of every file.
use Rattle.std.specs.Prelude.{◌≡◌, ℕ, suc, ◌≤◌, ◌⊎◌, ◌↔◌, false, true, List, [], ◌∷◌}
use Rattle.puz_board.specs.Boards.{IsBoard, IsBoardOf, at, blank, slid}
use Rattle.puz_board.specs.Cells.{Adjacent}
use Rattle.puz_board.specs.Costs.{LeadsHome, cost, has}
use Rattle.pat_place.specs.Placements.{placement_of}
use Rattle.pat_place.specs.Regions.{IsSlot}
use Rattle.tab_file.specs.Tables.{Table, IsTable}
use Rattle.tab_rule.specs.BadEntries.{AllKeepRule}
use Rattle.tab_rule.specs.Counts.{IsCensusOf}
use Rattle.tab_rule.specs.Entries.{IsEntryAt}
use Rattle.tab_file.specs.EntryBytes.{greatest_count}
use Rattle.tab_rule.specs.ExactTables.{AreExact, IsExactFile}
use Rattle.tab_rule.specs.FoldedTables.{FoldedTableSays}
use Rattle.tab_rule.specs.Limits.{HasBoardOfCost, IsPassed}
use Rattle.tab_rule.specs.LocalRule.{IsNearEntry}
use Rattle.tab_rule.specs.TableFaults.{IsTableFaultOf}
use Rattle.tab_rule.specs.declared.census.Census.{Census}
use Rattle.tab_rule.specs.declared.tables.Count.{Count}
use Rattle.tab_rule.specs.declared.tables.Count.TheVariants.{Finite}
use Rattle.tab_rule.specs.declared.tables.TableRefusal.{TableRefusal}

-- e is the entry of the board's placement and of the region of its blank
abbrev pub IsEntryOf : Table → List ℕ → ℕ → Type 0
IsEntryOf t b e = IsEntryAt t (placement_of t.pattern.tiles b) (blank b) e

-- a step that moves no tile of the pattern costs nothing and keeps the entry
abbrev pub OtherStepsKeepTheEntry : Type 0
OtherStepsKeepTheEntry =
    (t : Table) → IsTable t → (b : List ℕ) → IsBoardOf t.pattern.side b → (c : ℕ) → Adjacent t.pattern.side (blank b) c →
    has t.pattern.tiles (at b c) ≡ false →
    (cost t.pattern.tiles b (c ∷ []) ≡ 0) × ((e : ℕ) → IsEntryOf t b e → IsEntryOf t (slid b c) e)

-- a step that moves a tile of the pattern costs one and leads to an entry one move away
abbrev pub TileStepsLeadToANearEntry : Type 0
TileStepsLeadToANearEntry =
    (t : Table) → IsTable t → (b : List ℕ) → IsBoardOf t.pattern.side b → (c : ℕ) → Adjacent t.pattern.side (blank b) c →
    has t.pattern.tiles (at b c) ≡ true →
    (cost t.pattern.tiles b (c ∷ []) ≡ 1) ×
    ((j e : ℕ) → IsSlot t.pattern.side (placement_of t.pattern.tiles b) (blank b) j → IsEntryOf t (slid b c) e →
    IsNearEntry t (placement_of t.pattern.tiles b) j e)

-- where each entry keeps the rule, the entry of a board is a count and no path that leads its tiles home costs less
abbrev pub PathsCostTheEntryAtLeast : Type 0
PathsCostTheEntryAtLeast =
    (t : Table) → IsTable t → AllKeepRule t → (b : List ℕ) → IsBoardOf t.pattern.side b → (e : ℕ) → IsEntryOf t b e →
    (path : List ℕ) → LeadsHome t.pattern.tiles b path → (e ≤ greatest_count) × (e ≤ cost t.pattern.tiles b path)

-- a path that leads a board's tiles home at this cost
pub record HasPathOf (tiles b : List ℕ) (d : ℕ) : Type 0 where
  pub path : List ℕ
  pub leads : LeadsHome tiles b path
  pub costs : cost tiles b path ≡ d

-- where each entry keeps the rule, an entry that is a count is the cost of a path from each of its boards
abbrev pub CountsHavePaths : Type 0
CountsHavePaths =
    (t : Table) → IsTable t → AllKeepRule t → (b : List ℕ) → IsBoardOf t.pattern.side b → (e : ℕ) → IsEntryOf t b e →
    e ≤ greatest_count → HasPathOf t.pattern.tiles b e

-- where each entry keeps the rule up to a count of at most 253, and one is past it, some board costs one more
abbrev pub PassedCountsAreCosts : Type 0
PassedCountsAreCosts = (most : ℕ) → most ≤ greatest_count → (t : Table) → IsTable t → IsPassed most t → HasBoardOfCost t.pattern (suc most)

-- each least cost of a board of an exact table's pattern is a count that a table holds
abbrev pub ExactTablesBoundCosts : Type 0
ExactTablesBoundCosts = (t : Table) → IsTable t → AreExact t → (d : ℕ) → HasBoardOfCost t.pattern d → d ≤ greatest_count

-- each entry keeps the local rule exactly where each entry is right
abbrev pub FilesAreExactByRule : Type 0
FilesAreExactByRule = (t : Table) → IsTable t → AllKeepRule t ↔ AreExact t

-- where a path leads a board's tiles home, what a folded table tells of the board is a count that is at most its cost
abbrev pub FoldedCountsBoundPaths : Type 0
FoldedCountsBoundPaths =
    (tiles b : List ℕ) → IsBoard b → (count : Count) → FoldedTableSays tiles b count → (path : List ℕ) → LeadsHome tiles b path →
    (d : ℕ) × (count ≡ Finite d) × (d ≤ cost tiles b path)

-- ---- one answer

-- no file is that of two exact tables
abbrev pub FilesHaveOneExactTable : Type 0
FilesHaveOneExactTable = (file : List ℕ) (t u : Table) → IsExactFile t file → IsExactFile u file → t ≡ u

-- each file is that of an exact table or has a fault
abbrev pub TableFilesHaveAnAnswer : Type 0
TableFilesHaveAnAnswer = (file : List ℕ) → ((t : Table) × IsExactFile t file) ⊎ ((f : TableRefusal) × IsTableFaultOf f file)

-- no file has two faults
abbrev pub TableFilesHaveOneFault : Type 0
TableFilesHaveOneFault = (file : List ℕ) (f g : TableRefusal) → IsTableFaultOf f file → IsTableFaultOf g file → f ≡ g

-- an exact file has no fault
abbrev pub ExactFilesHaveNoFault : Type 0
ExactFilesHaveNoFault = (file : List ℕ) (t : Table) (f : TableRefusal) → IsExactFile t file → ¬ IsTableFaultOf f file

-- all entries have a census
abbrev pub EntriesHaveACensus : Type 0
EntriesHaveACensus = (entries : List ℕ) → (census : Census) × IsCensusOf entries census

-- no entries have two censuses
abbrev pub EntriesHaveOneCensus : Type 0
EntriesHaveOneCensus = (entries : List ℕ) (a b : Census) → IsCensusOf entries a → IsCensusOf entries b → a ≡ b
