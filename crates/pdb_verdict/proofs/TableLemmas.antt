-- A table file has one result.
use Rattle.std.proofs.Common.{◌≡◌, ℕ, ◌+◌, ◌<◌, Err, Ok, Result, drop, get_or-drop, inl, inr, refl, slice_index, ap}
use Rattle.byteorder.specs.Numbers.{big_from-lt}
use Rattle.pat_place.proofs.MaskLemmas.{numbers_of-one}
use Rattle.tab_file.specs.Tables.{Table}
use Rattle.tab_rule.specs.ExactTables.{IsExactFile}
use Rattle.tab_rule.specs.TableFaults.{IsTableCauseOf}
use Rattle.tab_rule.specs.declared.census.Census.{Census}
use Rattle.tab_rule.specs.declared.tables.TableFault.{TableFault}
use Rattle.tab_rule.proofs.AnswerLemmas.{census_some, file_answer}
use Rattle.tab_rule.proofs.OneResultLemmas.{IsCensusOf-one, IsTableFaultOf-one, exact_one, exact_or_fault}
use Rattle.byte_io.specs.Shelf.{Bytes}
use Rattle.pdb_verdict.specs.Inputs.{table_file}
use Rattle.pdb_verdict.specs.Steps.{of_table}
use Rattle.pdb_verdict.specs.Table.{IsExactFor, IsTableResult}
use Rattle.pdb_verdict.specs.Verdicts.{IsAnswerTo}
use Rattle.pdb_verdict.specs.declared.verdicts.Fault.{Fault}
use Rattle.pdb_verdict.proofs.RefusalLemmas.{IsOne}

module _ (file : Bytes) where
  -- there is a result, and the mask, of four bytes, fits 32 bits
  pub table_some : ((i : ℕ) → slice_index file i < 256) → (found : Result (ℕ × ℕ × Census) Fault) × IsTableResult file found
  table_some small = elim (file_answer file) [
    | inl exact ↦ let census = census_some exact.0.entries in (
      Ok (exact.0.pattern.side, _, census.0),
      record {
        table = exact.0;
        exact = exact.1;
        is_side = refl;
        is_mask = exact.1.is_file.mask;
        mask_low = big_from-lt 0 4 (drop 8 file) (λ i. rw get_or-drop (small (8 + i)));
        counted = census.1;
      },
    )
    | inr refused ↦ (Err (Fault.Table refused.0), refused.1)
  ]

  exact_for_one : IsOne (λ (e : ℕ × ℕ × Census). IsExactFor file e.0 e.1 e.2)
  exact_for_one e f is also =
      let table = exact_one file is.table also.table is.exact also.exact in
      let side : e.0 ≡ f.0 = cc in
      let mask = numbers_of-one e.1 f.1 is.mask_low also.mask_low (cc) in
      let census = IsCensusOf-one also.table.entries e.2 f.2 (rw table at is.counted) also.counted in
      λ i. (side i, mask i, census i)

  -- there is one result
  pub IsTableResult-one : IsOne (IsTableResult file)
  IsTableResult-one (Ok e) (Ok f) is also = ap Ok (exact_for_one e f is also)
  IsTableResult-one (Ok e) (Err (Fault.Table r)) is also = absurd (exact_or_fault file is.table r is.exact also)
  IsTableResult-one (Err (Fault.Table r)) (Ok e) is also = absurd (exact_or_fault file also.table r also.exact is)
  IsTableResult-one (Err (Fault.Table r)) (Err (Fault.Table q)) is also = ap (λ x. Err (Fault.Table x)) (IsTableFaultOf-one file r q is also)
  IsTableResult-one _ _ is also = search

  -- a file that is refused is no exact file
  pub refused_no_exact : (refused : Fault) → IsTableResult file (Err refused) → (t : Table) → ¬ IsExactFile t file
  refused_no_exact (Fault.Table r) is t exact = exact_or_fault file t r exact is
  refused_no_exact _ is t exact = absurd is

  -- a refusal is the result, and want of memory is taken
  pub table_refused : (cause : TableFault) → IsTableCauseOf cause file → IsAnswerTo (table_file file) (Err (of_table cause))
  table_refused (TableFault.Refused refused) is = (Err (Fault.Table refused), is, refl)
  table_refused TableFault.Memory is = is
