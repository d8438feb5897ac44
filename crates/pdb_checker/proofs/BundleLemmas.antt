-- The parts of files, one after the other.
use Rattle.std.proofs.Common.{◌∙◌, ℕ, false, List, [], ◌∷◌, ◌++◌, ◌+◌, ◌<◌, ap, get_or, length, sym, take}
use Rattle.std.proofs.lemmas.List.{map-append, take_more}
use Rattle.tab_file.specs.Tables.{Table}
use Rattle.tab_rule.specs.ExactTables.{IsExactFile}
use Rattle.set_sum.specs.declared.parts.Part.{Part}
use Rattle.set_sum.specs.declared.parts.Part.TheVariants.{Full}
use Rattle.pdb_verdict.specs.FileBundles.{AreExactFiles, part_for}
use Rattle.pdb_verdict.specs.Steps.{ArePartsOf}
use Rattle.pdb_checker.specs.Claims.{files_of}
use Rattle.pdb_checker.specs.declared.bundles.TableFile.{TableFile}

-- a file more, and its table
exact_more : (tables : List Table) (files : List (List ℕ)) (table : Table) (file : List ℕ) → AreExactFiles tables files → IsExactFile table file
    → AreExactFiles (tables ++ table ∷ []) (files ++ file ∷ [])
exact_more [] [] table file are is = (is, tt)
exact_more (t ∷ tables) (f ∷ files) table file are is = (are.0, exact_more tables files table file are.1 is)
exact_more _ _ table file are is = absurd are

-- the part for a file more
pub parts_more : (files : List (List ℕ)) (parts : List Part) (file : List ℕ) (table : Table) → ArePartsOf false files parts → IsExactFile table file
    → ArePartsOf false (files ++ file ∷ []) (parts ++ Full table ∷ [])
parts_more files parts file table are is = record {
  tables = are.tables ++ table ∷ [];
  exact = exact_more are.tables files table file are.exact is;
  are = ap (λ (xs : List Part). xs ++ Full table ∷ []) are.are ∙ sym (map-append (part_for false) are.tables (table ∷ []));
}

-- the part for the next of some checked tables
pub parts_next : (tables : List TableFile) (i : ℕ) (d : TableFile) → i < length tables → (parts : List Part) (table : Table)
    → ArePartsOf false (files_of (take i tables)) parts → IsExactFile table (get_or tables i d).file.now
    → ArePartsOf false (files_of (take (i + 1) tables)) (parts ++ Full table ∷ [])
parts_next tables i d low parts table are is =
    rw (take_more tables i d low, map-append) (parts_more (files_of (take i tables)) parts (get_or tables i d).file.now table are is)
