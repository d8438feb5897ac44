-- A file has one exact table or one fault, and not both. Entries have one census.
use Rattle.std.proofs.Common.{◌≡◌, ℕ, ◌≤◌, List, length, inl, inr, sym, ◌∙◌, ap, subst, arith}
use Rattle.std.specs.Prelude.{slice_index}
use Rattle.tab_file.specs.Tables.{Table}
use Rattle.tab_file.proofs.FileLemmas.{IsFirstFault-one, table_one, table_or_fault}
use Rattle.tab_rule.specs.BadEntries.{IsLeastBadEntry}
use Rattle.tab_file.specs.Counts.{IsGreatestCount}
use Rattle.tab_rule.specs.Counts.{IsCensusOf}
use Rattle.tab_rule.specs.ExactTables.{IsExactFile}
use Rattle.tab_rule.specs.TableFaults.{IsTableFaultOf}
use Rattle.tab_rule.specs.declared.census.Census.{Census}
use Rattle.tab_rule.specs.declared.tables.TableRefusal.{TableRefusal}
use Rattle.tab_rule.specs.declared.tables.TableRefusal.TheVariants.{Head, T7}
use Rattle.tab_rule.proofs.TableLemmas.{keeps_from_exact, least_bad_one, none_bad}

-- ---- files

module _ (file : List ℕ) where
  -- a file is that of one exact table alone
  pub exact_one : (t u : Table) → IsExactFile t file → IsExactFile u file → t ≡ u
  exact_one t u is also = table_one file t u is.is_file also.is_file

  -- a file has at most one fault, of the header or of an entry
  pub IsTableFaultOf-one : (f g : TableRefusal) → IsTableFaultOf f file → IsTableFaultOf g file → f ≡ g
  IsTableFaultOf-one (Head f) (Head g) is also = ap Head (IsFirstFault-one file f g is also)
  IsTableFaultOf-one (Head f) (T7 b) is also = absurd (table_or_fault file also.0 f also.1 is)
  IsTableFaultOf-one (T7 a) (Head g) is also = absurd (table_or_fault file is.0 g is.1 also)
  IsTableFaultOf-one (T7 a) (T7 b) is also = ap T7 (least_bad_one also.0 a b
      (subst (λ t. IsLeastBadEntry t a) (table_one file is.0 also.0 is.1 also.1) is.2) also.2)

  -- the file of an exact table has no fault, of the header or of an entry
  pub exact_or_fault : (t : Table) (f : TableRefusal) → IsExactFile t file → ¬ IsTableFaultOf f file
  exact_or_fault t (Head f) is fault = table_or_fault file t f is.is_file fault
  exact_or_fault t (T7 number) is fault =
      none_bad t (keeps_from_exact t is.is_file.table is.exact) number
      (subst (λ u. IsLeastBadEntry u number) (table_one file fault.0 t fault.1 is.is_file) fault.2)

-- ---- censuses

deepest_low : (entries : List ℕ) (first d e : ℕ) → IsGreatestCount entries first d → IsGreatestCount entries first e → d ≤ e
deepest_low entries first d e is also = elim is.reached [
  | inl zero ↦ omega arith
  | inr h ↦ let at_most : slice_index entries h.0 ≤ 253 = (let same : slice_index entries h.0 ≡ d = h.2 in let most : d ≤ 253 = is.most in omega arith) in
      let bound : slice_index entries h.0 ≤ e = also.bound h.0 h.1 at_most in let same : slice_index entries h.0 ≡ d = h.2 in omega arith
]

-- the entries of a list have at most one census
pub IsCensusOf-one : (entries : List ℕ) (a b : Census) → IsCensusOf entries a → IsCensusOf entries b → a ≡ b
IsCensusOf-one entries a b is also = λ i. record {
  entries = (is.entries_counted ∙ sym also.entries_counted) i;
  unreachable = (is.never_counted ∙ sym also.never_counted) i;
  deepest = deepest i;
}
  where
    deepest : a.deepest ≡ b.deepest
    deepest =
        let low : a.deepest ≤ b.deepest = deepest_low entries (length entries) a.deepest b.deepest is.greatest also.greatest in
        let high : b.deepest ≤ a.deepest = deepest_low entries (length entries) b.deepest a.deepest also.greatest is.greatest in
        omega arith
