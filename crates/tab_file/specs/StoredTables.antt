-- How a view of a table is stored: with the number of slots and the bytes of the whole file beside the pattern.
use Rattle.std.specs.Prelude.{◌≡◌}
use Rattle.tab_file.specs.declared.views.TableView.TheInside.{Inside}
use Rattle.tab_file.specs.TableFiles.{IsTableFile}
use Rattle.tab_file.specs.Tables.{Table, IsTable, slot_count}

-- the table with this pattern and these entries
abbrev pub table_shown : Inside → Table
table_shown v = record { pattern = v.pattern; entries = v.entries.now }

-- these are the fields of a view of a table
pub record IsStoredTable (v : Inside) : Type 0 where
  pub table : IsTable (table_shown v)
  pub width : v.width ≡ slot_count v.pattern
  pub file : IsTableFile (table_shown v) v.file.now
