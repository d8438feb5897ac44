-- How a folded table is stored: its pattern, and a byte for each rank.
use Rattle.pat_place.specs.Patterns.{IsPattern}
use Rattle.tab_rule.specs.FoldedTables.{AreFolded}
use Rattle.tab_rule.specs.declared.folded.FoldedTable.TheInside.{Inside}

-- these are the fields of a folded table
pub record IsStoredFold (t : Inside) : Type 0 where
  pub pattern : IsPattern t.pattern
  pub entries : AreFolded t.pattern t.entries.items
