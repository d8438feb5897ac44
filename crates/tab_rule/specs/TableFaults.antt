-- What keeps bytes from being an exact table file.
use Rattle.std.specs.Prelude.{ℕ, List}
use Rattle.tab_file.specs.HeadFaults.{IsFirstFault}
use Rattle.tab_file.specs.TableFiles.{IsTableFile}
use Rattle.tab_file.specs.Tables.{Table}
use Rattle.tab_rule.specs.BadEntries.{IsLeastBadEntry}
use Rattle.tab_rule.specs.declared.tables.TableFault.{TableFault}
use Rattle.tab_rule.specs.declared.tables.TableFault.TheVariants.{Memory, Refused}
use Rattle.tab_rule.specs.declared.tables.TableRefusal.{TableRefusal}
use Rattle.tab_rule.specs.declared.tables.TableRefusal.TheVariants.{Head, T7}

-- the first fault of the header that stands, or else the least bad entry of the table
abbrev pub IsTableFaultOf : TableRefusal → List ℕ → Type 0
IsTableFaultOf (Head fault) file = IsFirstFault fault file
IsTableFaultOf (T7 number) file = (t : Table) × IsTableFile t file × IsLeastBadEntry t number

-- why no checked table comes of the bytes: a fault of theirs, or want of memory, which comes of any table file and of no
-- other bytes
abbrev pub IsTableCauseOf : TableFault → List ℕ → Type 0
IsTableCauseOf (Refused fault) file = IsTableFaultOf fault file
IsTableCauseOf Memory file = (t : Table) × IsTableFile t file
