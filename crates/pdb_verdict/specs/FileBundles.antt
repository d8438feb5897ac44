-- Bundles of table files and a set text.
use Rattle.std.specs.Prelude.{⊤, ℕ, zero, suc, Bool, true, false, List, [], ◌∷◌, Result, MatchResult, map}
use Rattle.tab_file.specs.TableFiles.{IsTableFile}
use Rattle.tab_file.specs.Tables.{Table}
use Rattle.tab_rule.specs.ExactTables.{IsExactFile}
use Rattle.tab_rule.specs.TableFaults as table_fault
use Rattle.tab_rule.specs.declared.tables.TableRefusal.{TableRefusal}
use Rattle.set_sum.specs.Bundles.{ShownBundle}
use Rattle.set_sum.specs.Reading as reading
use Rattle.set_sum.specs.declared.faults.SetFault.{SetFault}
use Rattle.set_sum.specs.declared.parts.Part.{Part}
use Rattle.set_sum.specs.declared.parts.Part.TheVariants.{Folded, Full}
use Rattle.byte_io.specs.Shelf.{Bytes}
use Rattle.pdb_verdict.specs.Refusals.{IsCauseBy}
use Rattle.pdb_verdict.specs.declared.verdicts.Fault.{Fault}
use Rattle.pdb_verdict.specs.declared.verdicts.Fault.TheVariants as fault

-- ---- what a bundle is

-- each file is that of the exact table in its place
abbrev pub AreExactFiles : List Table → List Bytes → Type 0
AreExactFiles [] [] = ⊤
AreExactFiles [] (file ∷ files) = ⊥
AreExactFiles (table ∷ tables) [] = ⊥
AreExactFiles (table ∷ tables) (file ∷ files) = IsExactFile table file × AreExactFiles tables files

-- a table as a part of a bundle: folded, or full
abbrev pub part_for : Bool → Table → Part
part_for true table = Folded table.pattern
part_for false table = Full table

-- the same of several
abbrev pub parts_for : Bool → List Table → List Part
parts_for fold tables = map (part_for fold) tables

-- the files are those of exact tables, and these, folded or full, and the set text make this bundle
pub record IsBundleOfFiles (fold : Bool) (files : List Bytes) (sets : Bytes) (bundle : ShownBundle) : Type 0 where
  pub tables : List Table
  pub exact : AreExactFiles tables files
  pub makes : reading.IsBundleOf (parts_for fold tables) sets bundle

-- ---- why there is none: the first table file that is refused, and then what is wrong with the tables and the set text

-- the file with this number, from 0, is refused for this, and those before it are of exact tables
abbrev pub IsFirstRefused : List Bytes → ℕ → TableRefusal → Type 0
IsFirstRefused [] number refused = ⊥
IsFirstRefused (file ∷ files) zero refused = table_fault.IsTableFaultOf refused file
IsFirstRefused (file ∷ files) (suc number) refused = (table : Table) × IsExactFile table file × IsFirstRefused files number refused

-- all files are of exact tables, and with these, folded or full, the set text is refused for this
pub record AreRefusedSets (fold : Bool) (files : List Bytes) (sets : Bytes) (refused : SetFault) : Type 0 where
  pub tables : List Table
  pub exact : AreExactFiles tables files
  pub fault : reading.IsSetFaultOf refused (parts_for fold tables) sets

-- they make no bundle, and this is why
abbrev pub AreRefused : Bool → List Bytes → Bytes → Fault → Type 0
AreRefused fold files sets (fault.TableOf number refused) = IsFirstRefused files number refused
AreRefused fold files sets (fault.Sets refused) = AreRefusedSets fold files sets refused
AreRefused fold files sets _ = ⊥

-- ---- memory

-- to check files takes memory once the first is a table file
abbrev pub TakesMemoryForTables : List Bytes → Type 0
TakesMemoryForTables [] = ⊥
TakesMemoryForTables (file ∷ files) = (table : Table) × IsTableFile table file

-- why there isn't a bundle of the files and the set text: they are refused, or want of memory
abbrev pub IsCauseForBundle : Bool → List Bytes → Bytes → Fault → Type 0
IsCauseForBundle fold files sets cause = IsCauseBy (AreRefused fold files sets) (TakesMemoryForTables files) cause

-- the bundle of the files and the set text, or why there is none
abbrev pub IsReadBundle : Bool → List Bytes → Bytes → Result ShownBundle Fault → Type 0
IsReadBundle fold files sets read = MatchResult read (IsBundleOfFiles fold files sets) (IsCauseForBundle fold files sets)

module _ (fold : Bool) (files : List Bytes) (sets : Bytes) where
  -- whichever of these it is, this holds of it
  abbrev pub IfRead : (Result ShownBundle Fault → Type 0) → Type 0
  IfRead Holds = (read : Result ShownBundle Fault) → IsReadBundle fold files sets read → Holds read

  -- it is one of these, of which this holds
  abbrev pub IsReadAnd : (Result ShownBundle Fault → Type 0) → Type 0
  IsReadAnd Holds = (read : Result ShownBundle Fault) × IsReadBundle fold files sets read × Holds read
