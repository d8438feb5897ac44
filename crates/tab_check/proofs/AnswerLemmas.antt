-- What is answered of a file, where a checked table is an exact file's, and a fault is its cause.
use Rattle.std.proofs.Common.{◌≡◌, ℕ, ◌⊎◌, List, Result, Ok, Err, inl, inr, refl, ap, sym}
use Rattle.std.specs.Prelude.{IfErr, IfOk}
use Rattle.tab_file.specs.HeadFaults.{table_of_file}
use Rattle.tab_file.specs.TableFiles.{IsTableFile}
use Rattle.tab_file.specs.Tables.{Table}
use Rattle.tab_file.specs.declared.headers.HeadFault.{HeadFault}
use Rattle.tab_file.proofs.FileLemmas.{IfErr-first, table_or_fault}
use Rattle.tab_rule.specs.BadEntries.{IsLeastBadEntry}
use Rattle.tab_rule.specs.ExactTables.{IsExactFile}
use Rattle.tab_rule.specs.TableFaults.{IsTableCauseOf}
use Rattle.tab_rule.specs.declared.tables.TableFault.{TableFault}
use Rattle.tab_rule.specs.declared.tables.TableFault.TheVariants.{Memory, Refused}
use Rattle.tab_rule.specs.declared.tables.TableRefusal.TheVariants.{Head, T7}
use Rattle.tab_rule.proofs.OneResultLemmas.{IsTableFaultOf-one, exact_one, exact_or_fault}

module _ (file : List ℕ) where
  -- an exact table is what is answered of its file, or memory is wanting
  pub exact_answered : (r : Result Table TableFault) → IfOk r (λ table. IsExactFile table file) → IfErr r (λ fault. IsTableCauseOf fault file)
      → (table : Table) → IsExactFile table file → (r ≡ Ok table) ⊎ (r ≡ Err Memory)
  exact_answered (Ok found) ok err table is = inl (ap Ok (exact_one file found table ok is))
  exact_answered (Err Memory) ok err table is = inr refl
  exact_answered (Err (Refused fault)) ok err table is = absurd (exact_or_fault file table fault is err)

  -- the first fault of the header is what is answered, and memory is never wanting
  pub head_answered : (r : Result Table TableFault) → IfOk r (λ table. IsExactFile table file) → IfErr r (λ fault. IsTableCauseOf fault file)
      → (fault : HeadFault) → table_of_file file ≡ Err fault → r ≡ Err (Refused (Head fault))
  head_answered (Ok found) ok err fault e = absurd (exact_or_fault file found (Head fault) ok (IfErr-first file (Err fault) (sym e)))
  head_answered (Err Memory) ok err fault e = absurd (table_or_fault file err.0 fault err.1 (IfErr-first file (Err fault) (sym e)))
  head_answered (Err (Refused other)) ok err fault e =
      ap (λ f. Err (Refused f)) (IsTableFaultOf-one file other (Head fault) err (IfErr-first file (Err fault) (sym e)))

  -- the least bad entry of a table is what is answered of its file, or memory is wanting
  pub bad_answered : (r : Result Table TableFault) → IfOk r (λ table. IsExactFile table file) → IfErr r (λ fault. IsTableCauseOf fault file)
      → (table : Table) (number : ℕ) → IsTableFile table file → IsLeastBadEntry table number
      → (r ≡ Err (Refused (T7 number))) ⊎ (r ≡ Err Memory)
  bad_answered (Ok found) ok err table number is_file is = absurd (exact_or_fault file found (T7 number) ok (table, is_file, is))
  bad_answered (Err Memory) ok err table number is_file is = inr refl
  bad_answered (Err (Refused other)) ok err table number is_file is =
      inl (ap (λ f. Err (Refused f)) (IsTableFaultOf-one file other (T7 number) err (table, is_file, is)))
