-- Table files that are checked one after the other.
use Rattle.std.proofs.Common.{◌≡◌, ◌⊎◌, ℕ, Bool, true, false, zero, suc, ◌<◌, List, [], ◌∷◌, ◌++◌, MatchResult, Result, add-one, ap, append-nil}
use Rattle.std.proofs.Common.{append_assoc, arith, inl, inr, length, min, refl}
use Rattle.std.specs.List.{AllByRecursion}
use Rattle.std.proofs.lemmas.Bool.{cases_eq}
use Rattle.tab_file.specs.Tables.{Table, placement_count}
use Rattle.tab_rule.specs.ExactTables.{IsExactTable}
use Rattle.tab_rule.specs.LeastEntries.{IsLeastEntry}
use Rattle.tab_rule.specs.declared.tables.TableRefusal.{TableRefusal}
use Rattle.tab_rule.proofs.AnswerLemmas.{file_answer}
use Rattle.tab_rule.proofs.FoldLemmas.{AreFoldedBelow, folded_all, folded_more, folded_none, least_more, least_none, part_of}
use Rattle.tab_rule.proofs.OneResultLemmas.{IsTableFaultOf-one, exact_one, exact_or_fault}
use Rattle.set_sum.specs.Bundles.{ShownBundle}
use Rattle.set_sum.specs.Parts.{IsExactPart}
use Rattle.byte_io.specs.Shelf.{Bytes}
use Rattle.pdb_verdict.specs.FileBundles.{AreExactFiles, IsBundleOfFiles, IsFirstRefused, TakesMemoryForTables, part_for, parts_for}
use Rattle.pdb_verdict.proofs.RefusalLemmas.{IsOne, one_result}

-- ---- the files are those of one list of tables, or one is the first that is refused

tables_one : (files : List Bytes) → IsOne (λ ts. AreExactFiles ts files)
tables_one [] [] [] are also = refl
tables_one (file ∷ files) (t ∷ ts) (u ∷ us) are also =
    λ i. exact_one file t u are.0 also.0 i ∷ tables_one files ts us are.1 also.1 i
tables_one _ _ _ are also = search

first_one : (files : List Bytes) (i j : ℕ) (r q : TableRefusal) → IsFirstRefused files i r → IsFirstRefused files j q → (i ≡ j) × (r ≡ q)
first_one [] i j r q is also = absurd is
first_one (file ∷ files) zero zero r q is also = (refl, IsTableFaultOf-one file r q is also)
first_one (file ∷ files) zero (suc j) r q is also = absurd (exact_or_fault file also.0 r also.1 is)
first_one (file ∷ files) (suc i) zero r q is also = absurd (exact_or_fault file is.0 q is.1 also)
first_one (file ∷ files) (suc i) (suc j) r q is also = let rest = first_one files i j r q is.2 also.2 in (ap suc rest.0, rest.1)

none_refused : (files : List Bytes) (ts : List Table) (i : ℕ) (r : TableRefusal) → AreExactFiles ts files → ¬ IsFirstRefused files i r
none_refused (file ∷ files) (t ∷ ts) zero r are is = exact_or_fault file t r are.0 is
none_refused (file ∷ files) (t ∷ ts) (suc i) r are is = none_refused files ts i r are.1 is.2
none_refused _ _ i r are is = search

-- what files come to
abbrev pub AreTablesOf : List Bytes → Result (List Table) (ℕ × TableRefusal) → Type 0
AreTablesOf files found = MatchResult found (λ ts. AreExactFiles ts files) (λ f. IsFirstRefused files f.0 f.1)

-- they come to one thing
pub AreTablesOf-one : (files : List Bytes) → IsOne (AreTablesOf files)
AreTablesOf-one files =
    one_result (tables_one files)
    (λ f g is also. let same = first_one files f.0 g.0 f.1 g.1 is also in λ k. (same.0 k, same.1 k))
    (λ ts f. none_refused files ts f.0 f.1)

-- the tables of all files, or the first file that is refused
pub tables_answer : (files : List Bytes)
    → ((tables : List Table) × AreExactFiles tables files) ⊎ ((number : ℕ) × (refused : TableRefusal) × IsFirstRefused files number refused)
tables_answer [] = inl ([], tt)
tables_answer (file ∷ files) = elim (file_answer file) [
  | inr refused ↦ inr (zero, refused.0, refused.1)
  | inl exact ↦ elim (tables_answer files) [
    | inl are ↦ inl (exact.0 ∷ are.0, (exact.1, are.1))
    | inr h ↦ inr (suc h.0, h.1, (exact.0, exact.1, h.2))
  ]
]

-- ---- an exact table has a folded one

-- some entries have a least one
least_of : (seen rest : List ℕ) (least : ℕ) → IsLeastEntry seen least → (m : ℕ) × IsLeastEntry (seen ++ rest) m
least_of seen [] least is = (least, rw append-nil is)
least_of seen (e ∷ rest) least is =
    let next : (m : ℕ) × IsLeastEntry (seen ++ e ∷ []) m = elim (cases_eq e 254) [
      | inl same ↦ (least, least_more seen e least is least (inl (same, refl)))
      | inr other ↦ (min least e, least_more seen e least is (min least e) (inr (other, refl)))
    ] in
    rw (append_assoc seen (e ∷ []) rest) at (least_of (seen ++ e ∷ []) rest next.0 next.1)

-- those of each of the first ranks make a row
folded_below : (t : Table) (count : ℕ) → (folded : List ℕ) × AreFoldedBelow t count folded
folded_below t zero = ([], folded_none t)
folded_below t (suc count) =
    let before = folded_below t count in
    let least = least_of [] (part_of t count) 255 least_none in
    (before.0 ++ least.0 ∷ [], rw (add-one count) at (folded_more t count before.0 least.0 before.1 least.1))

part_exact : (fold : Bool) (t : Table) → IsExactTable t → IsExactPart (part_for fold t)
part_exact false t is = is
part_exact true t is =
    let folded = folded_below t (placement_count t.pattern) in
    record { pattern = is.is_table.pattern; entries = folded.0; are = folded_all t is folded.0 folded.1 }

-- ---- bundles

-- tables of exact files are exact, folded too
pub all_exact : (fold : Bool) (ts : List Table) (files : List Bytes) → AreExactFiles ts files → AllByRecursion IsExactPart (parts_for fold ts)
all_exact fold [] files are = tt
all_exact fold (t ∷ ts) [] are = absurd are
all_exact fold (t ∷ ts) (file ∷ files) are =
    (part_exact fold t (record { is_table = are.0.is_file.table; exact = are.0.exact }), all_exact fold ts files are.1)

-- what makes a bundle has a table file, so it takes memory to check it
pub bundle_taken : (fold : Bool) (files : List Bytes) (sets : Bytes) (bundle : ShownBundle) → IsBundleOfFiles fold files sets bundle
    → TakesMemoryForTables files
bundle_taken fold files sets bundle is = exact_taken is.tables files is.makes.alike.count.some is.exact
  where
    exact_taken : (ts : List Table) (of : List Bytes) → 0 < length (parts_for fold ts) → AreExactFiles ts of → TakesMemoryForTables of
    exact_taken [] of some are = absurd (omega arith)
    exact_taken (t ∷ ts) [] some are = are
    exact_taken (t ∷ ts) (file ∷ of) some are = (t, are.0.is_file)
