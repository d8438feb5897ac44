-- How a checked table is stored: its view, and the slots of all placements on boards of its side, where they are kept.
use Rattle.std.specs.Prelude.{◌≡◌, IfSome}
use Rattle.tab_rule.specs.ExactTables.{IsExactTable}
use Rattle.tab_rule.specs.declared.tables.CheckedTable.TheInside.{Inside}

-- these are the fields of a table that is exact, and slots that are kept are for its side
pub record IsStoredCheckedTable (t : Inside) : Type 0 where
  pub exact : IsExactTable t.view
  pub slots : IfSome t.slots (λ side. side ≡ t.view.pattern.side)
