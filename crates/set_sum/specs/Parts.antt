-- The tables of a bundle, each of them full or folded.
use Rattle.std.specs.Prelude.{ℕ, Bool, true, false, List, [], MatchBool, map}
use Rattle.pat_place.specs.Patterns.{ShownPattern}
use Rattle.tab_rule.specs.Counts.{TableSays}
use Rattle.tab_rule.specs.ExactTables.{IsExactTable}
use Rattle.tab_rule.specs.FoldedTables.{HasFoldedTable, FoldedTableSays}
use Rattle.tab_rule.specs.declared.tables.Count.{Count}
use Rattle.set_sum.specs.declared.parts.Part.{Part}
use Rattle.set_sum.specs.declared.parts.Part.TheVariants.{Folded, Full}

-- ---- what is shown of them

-- what a contract sees of a bundle's table: the tiles of its pattern, and whether it is folded
pub record ShownPart : Type 0 where
  pub tiles : List ℕ
  pub is_folded : Bool

-- the pattern of a table
abbrev pub part_pattern : Part → ShownPattern
part_pattern (Full table) = table.pattern
part_pattern (Folded pattern) = pattern

-- a table as it is shown
abbrev pub part_shown : Part → ShownPart
part_shown (Full table) = record { tiles = table.pattern.tiles; is_folded = false }
part_shown (Folded pattern) = record { tiles = pattern.tiles; is_folded = true }

-- the same of several
abbrev pub parts_shown : List Part → List ShownPart
parts_shown parts = map part_shown parts

-- what is shown where there is no table
abbrev pub no_part : ShownPart
no_part = record { tiles = []; is_folded = false }

-- ---- what they say

-- what a table tells of a board, by whole boards and paths: the least cost at which its tiles come home, or never; and folded
-- the least of that over all boards that have the tiles in the same cells
abbrev pub PartSays : ShownPart → List ℕ → Count → Type 0
PartSays part b count = MatchBool part.is_folded (FoldedTableSays part.tiles b count) (TableSays part.tiles b count)

-- a table that is exact; or the folded table of a pattern, which has one
abbrev pub IsExactPart : Part → Type 0
IsExactPart (Full table) = IsExactTable table
IsExactPart (Folded pattern) = HasFoldedTable pattern
