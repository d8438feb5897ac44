-- Tables and a set text make one bundle, or have one fault.
use Rattle.std.proofs.Common.{◌≡◌, ◌≢◌, ℕ, zero, suc, ◌<◌, ◌≤◌, List, [], ◌∷◌, length, take, inl, inr, refl, sym, ◌∙◌, ap, subst, arith, Some}
use Rattle.std.proofs.lemmas.Bool.{cases_order}
use Rattle.std.specs.Prelude.{Err, IfErr, IfOk, Ok, Result, slice_get}
use Rattle.std.specs.List.{AllByRecursion}
use Rattle.pat_place.specs.Patterns.{ShownPattern}
use Rattle.set_sum.specs.Bundles.{ShownBundle, most_sets}
use Rattle.set_sum.specs.Parts.{part_pattern}
use Rattle.set_sum.specs.Reading.{AreAlike, AreFew, AreNotFew, AreSets, IsBundleOf, IsSetFaultOf, IsFirstWith, NamesNoTable, NamesOverlap, NamesTwice}
use Rattle.set_sum.specs.Reading.{first_side}
use Rattle.set_sum.specs.SetTexts.{AreLines}
use Rattle.set_sum.specs.OverPatterns.{AreSetsOver, IsFaultOver, bundle_with, tables_with}
use Rattle.set_sum.specs.declared.faults.SetFault.{SetFault}
use Rattle.set_sum.specs.declared.faults.SetFault.TheVariants.{S1, S2, S3, S4, S5, S6}
use Rattle.set_sum.specs.declared.members.Member.{Member}
use Rattle.set_sum.specs.declared.parts.Part.{Part}
use Rattle.set_sum.proofs.ListLemmas.{all_weaker}
use Rattle.set_sum.proofs.LineLemmas.{AreLines-once, bad_line-once, no_bad_line}
use Rattle.set_sum.proofs.PatternLemmas.{have_with}

-- ---- the first element with a property

-- an element of the list is one of those before any later place
all_take : {X : Type 0} (P : X → Type 0) (xs : List X) (i j : ℕ) (x : X) → i < j → slice_get xs i ≡ Some x → AllByRecursion P (take j xs) → P x
all_take P [] i j x low is all = absurd (let e : _ = is in cc)
all_take P (y ∷ xs) i zero x low is all = absurd (omega arith)
all_take P (y ∷ xs) zero (suc j) x low is all = subst P (let e : Some y ≡ Some x = is in cc) all.0
all_take P (y ∷ xs) (suc i) (suc j) x low is all = all_take P xs i j x (omega arith) is all.1

-- what holds all along a list holds of its element at any place
pub all_get : {X : Type 0} (P : X → Type 0) (xs : List X) (i : ℕ) (x : X) → slice_get xs i ≡ Some x → AllByRecursion P xs → P x
all_get P [] i x is all = absurd (let e : _ = is in cc)
all_get P (y ∷ xs) zero x is all = subst P (let e : Some y ≡ Some x = is in cc) all.0
all_get P (y ∷ xs) (suc i) x is all = all_get P xs i x is all.1

-- a list has one first place with a property at most
pub first-once : {X : Type 0} (Has : X → Type 0) (xs : List X) (i j : ℕ) → IsFirstWith Has xs i → IsFirstWith Has xs j → i ≡ j
first-once Has xs i j one other = elim (cases_order i j) [
  | inl same ↦ same
  | inr rest ↦ elim rest [
    | inl low ↦ absurd (all_take (λ x. ¬ Has x) xs i j one.item low one.is_item other.first one.has)
    | inr high ↦ absurd (all_take (λ x. ¬ Has x) xs j i other.item high other.is_item one.first other.has)
  ]
]

-- where there is a first element with a property, not all elements lack it
pub first-none : {X : Type 0} (Has : X → Type 0) (xs : List X) (i : ℕ) → IsFirstWith Has xs i → ¬ AllByRecursion (λ x. ¬ Has x) xs
first-none Has xs i one none = all_get (λ x. ¬ Has x) xs i one.item one.is_item none one.has

module _ (tables : List Part) (text : List ℕ) where
  not_few : AreFew tables → ¬ AreNotFew tables
  not_few count h = let some = count.some in let few = count.few in elim h [ inl none ↦ omega arith | inr many ↦ omega arith ]

  one_side : AreAlike tables → (i : ℕ) → ¬ IsFirstWith (λ t. (part_pattern t).side ≢ first_side tables) tables i
  one_side alike i first =
      first-none (λ t. (part_pattern t).side ≢ first_side tables) tables i first
      (all_weaker (λ t. (part_pattern t).side ≡ first_side tables) (λ t. ¬ ((part_pattern t).side ≢ first_side tables))
      (λ t same other. other same) tables alike.one_side)

  few_lines : (ss ts : List (List Member)) → AreSets text ss → AreLines text ts → ¬ (most_sets < length ts)
  few_lines ss ts are lines many = let same : length ss ≡ length ts = ap length (AreLines-once text ss ts are.lines lines) in
      let few : length ss ≤ most_sets = are.few in omega arith

  sets-once : (ss ts : List (List Member)) → AreSets text ss → AreSets text ts → ss ≡ ts
  sets-once ss ts one other = AreLines-once text ss ts one.lines other.lines

  abbrev No : List Member → Type 0
  No = NamesNoTable tables

  abbrev Twice : List Member → Type 0
  Twice = NamesTwice tables

  abbrev Two : List Member → Type 0
  Two = NamesOverlap tables

  -- ---- one fault

  -- tables and a set text have one fault at most
  pub fault-once : (f g : SetFault) → IsSetFaultOf f tables text → IsSetFaultOf g tables text → f ≡ g
  fault-once (S1 i) (S1 j) one other = ap S1 (bad_line-once text i j one.1 other.1)
  fault-once (S1 i) (S2 j) one other = absurd (no_bad_line text other.1 i other.2.lines one.1)
  fault-once (S1 i) (S3 j) one other = absurd (no_bad_line text other.1 i other.2.lines one.1)
  fault-once (S1 i) (S6 j) one other = absurd (no_bad_line text other.1 i other.2.lines one.1)
  fault-once (S1 i) (S4 j) one other = absurd (one_side one.0 j other.1)
  fault-once (S1 i) S5 one other = absurd (elim other [ inl none ↦ not_few one.0.count none | inr many ↦ no_bad_line text many.1 i many.2 one.1 ])
  fault-once (S2 i) (S1 j) one other = absurd (no_bad_line text one.1 j one.2.lines other.1)
  fault-once (S2 i) (S2 j) one other = ap S2 (first-once No other.1 i j
      (subst (λ ss. IsFirstWith No ss i) (sets-once one.1 other.1 one.2 other.2) one.3) other.3)
  fault-once (S2 i) (S3 j) one other = absurd (first-none No other.1 i
      (subst (λ ss. IsFirstWith No ss i) (sets-once one.1 other.1 one.2 other.2) one.3) other.3)
  fault-once (S2 i) (S6 j) one other = absurd (first-none No other.1 i
      (subst (λ ss. IsFirstWith No ss i) (sets-once one.1 other.1 one.2 other.2) one.3) other.3)
  fault-once (S2 i) (S4 j) one other = absurd (one_side one.0 j other.1)
  fault-once (S2 i) S5 one other = absurd (elim other [ inl none ↦ not_few one.0.count none | inr many ↦ few_lines one.1 many.1 one.2 many.2 many.3 ])
  fault-once (S3 i) (S1 j) one other = absurd (no_bad_line text one.1 j one.2.lines other.1)
  fault-once (S3 i) (S2 j) one other = absurd (first-none No one.1 j (subst (λ ss. IsFirstWith No ss j) (sets-once other.1 one.1 other.2 one.2) other.3) one.3)
  fault-once (S3 i) (S3 j) one other = ap S3 (first-once Two other.1 i j
      (subst (λ ss. IsFirstWith Two ss i) (sets-once one.1 other.1 one.2 other.2) one.5) other.5)
  fault-once (S3 i) (S6 j) one other = absurd (first-none Twice one.1 j
      (subst (λ ss. IsFirstWith Twice ss j) (sets-once other.1 one.1 other.2 one.2) other.4) one.4)
  fault-once (S3 i) (S4 j) one other = absurd (one_side one.0 j other.1)
  fault-once (S3 i) S5 one other = absurd (elim other [ inl none ↦ not_few one.0.count none | inr many ↦ few_lines one.1 many.1 one.2 many.2 many.3 ])
  fault-once (S4 i) (S1 j) one other = absurd (one_side other.0 i one.1)
  fault-once (S4 i) (S2 j) one other = absurd (one_side other.0 i one.1)
  fault-once (S4 i) (S3 j) one other = absurd (one_side other.0 i one.1)
  fault-once (S4 i) (S6 j) one other = absurd (one_side other.0 i one.1)
  fault-once (S4 i) (S4 j) one other = ap S4 (first-once (λ t. (part_pattern t).side ≢ first_side tables) tables i j one.1 other.1)
  fault-once (S4 i) S5 one other = absurd (elim other [ inl none ↦ not_few one.0 none | inr many ↦ one_side many.0 i one.1 ])
  fault-once S5 (S1 j) one other = absurd (elim one [ inl none ↦ not_few other.0.count none | inr many ↦ no_bad_line text many.1 j many.2 other.1 ])
  fault-once S5 (S2 j) one other = absurd (elim one [ inl none ↦ not_few other.0.count none | inr many ↦ few_lines other.1 many.1 other.2 many.2 many.3 ])
  fault-once S5 (S3 j) one other = absurd (elim one [ inl none ↦ not_few other.0.count none | inr many ↦ few_lines other.1 many.1 other.2 many.2 many.3 ])
  fault-once S5 (S6 j) one other = absurd (elim one [ inl none ↦ not_few other.0.count none | inr many ↦ few_lines other.1 many.1 other.2 many.2 many.3 ])
  fault-once S5 (S4 j) one other = absurd (elim one [ inl none ↦ not_few other.0 none | inr many ↦ one_side many.0 j other.1 ])
  fault-once S5 S5 one other = refl
  fault-once (S6 i) (S1 j) one other = absurd (no_bad_line text one.1 j one.2.lines other.1)
  fault-once (S6 i) (S2 j) one other = absurd (first-none No one.1 j (subst (λ ss. IsFirstWith No ss j) (sets-once other.1 one.1 other.2 one.2) other.3) one.3)
  fault-once (S6 i) (S3 j) one other = absurd (first-none Twice other.1 i
      (subst (λ ss. IsFirstWith Twice ss i) (sets-once one.1 other.1 one.2 other.2) one.4) other.4)
  fault-once (S6 i) (S6 j) one other = ap S6 (first-once Twice other.1 i j
      (subst (λ ss. IsFirstWith Twice ss i) (sets-once one.1 other.1 one.2 other.2) one.4) other.4)
  fault-once (S6 i) (S4 j) one other = absurd (one_side one.0 j other.1)
  fault-once (S6 i) S5 one other = absurd (elim other [ inl none ↦ not_few one.0.count none | inr many ↦ few_lines one.1 many.1 one.2 many.2 many.3 ])

  -- a bundle, and then no fault
  pub bundle-no_fault : (v : ShownBundle) (f : SetFault) → IsBundleOf tables text v → ¬ IsSetFaultOf f tables text
  bundle-no_fault v (S1 i) is fault = no_bad_line text v.sets i is.are_sets.lines fault.1
  bundle-no_fault v (S2 i) is fault = first-none No v.sets i (subst (λ ss. IsFirstWith No ss i) (sets-once fault.1 v.sets fault.2 is.are_sets) fault.3) is.there
  bundle-no_fault v (S3 i) is fault = first-none Two v.sets i
      (subst (λ ss. IsFirstWith Two ss i) (sets-once fault.1 v.sets fault.2 is.are_sets) fault.5) is.disjoint
  bundle-no_fault v (S6 i) is fault = first-none Twice v.sets i
      (subst (λ ss. IsFirstWith Twice ss i) (sets-once fault.1 v.sets fault.2 is.are_sets) fault.4) is.apart
  bundle-no_fault v (S4 i) is fault = one_side is.alike i fault.1
  bundle-no_fault v S5 is fault = elim fault [ inl none ↦ not_few is.alike.count none | inr many ↦ few_lines v.sets many.1 is.are_sets many.2 many.3 ]

  -- ---- one bundle

  -- tables and a set text make one bundle at most
  pub bundle-once : (v w : ShownBundle) → IsBundleOf tables text v → IsBundleOf tables text w → v ≡ w
  bundle-once v w one other =
      let side : v.side ≡ w.side = one.side ∙ sym other.side in
      let shown : v.tables ≡ w.tables = one.shown ∙ sym other.shown in
      let sets : v.sets ≡ w.sets = sets-once v.sets w.sets one.are_sets other.are_sets in
      λ i. record { side = side i; tables = shown i; sets = sets i }

  -- ---- an answer that is right is the answer

  -- a right answer about tables and a text that make a bundle is this bundle
  pub made : (r : Result ShownBundle SetFault) → IfOk r (λ w. IsBundleOf tables text w) → IfErr r (λ g. IsSetFaultOf g tables text)
      → (v : ShownBundle) → IsBundleOf tables text v → r ≡ Ok v
  made (Ok w) ok err v is = ap Ok (bundle-once w v ok is)
  made (Err g) ok err v is = absurd (bundle-no_fault v g is err)

  -- a right answer about tables and a text that have a fault is this fault
  pub refused : (r : Result ShownBundle SetFault) → IfOk r (λ w. IsBundleOf tables text w) → IfErr r (λ g. IsSetFaultOf g tables text)
      → (f : SetFault) → IsSetFaultOf f tables text → r ≡ Err f
  refused (Ok w) ok err f is = absurd (bundle-no_fault w f ok is)
  refused (Err g) ok err f is = ap Err (fault-once g f err is)

-- ---- sets over patterns

-- a right answer about a text that has sets over the patterns is these sets
pub sets_made : (patterns : List ShownPattern) (text : List ℕ) (r : Result (List (List Member)) SetFault) → IfOk r (λ sets. AreSetsOver patterns text sets)
    → IfErr r (λ fault. IsFaultOver fault patterns text) → (sets : List (List Member)) → AreSetsOver patterns text sets → r ≡ Ok sets
sets_made patterns text (Ok other) ok err sets are =
    let others = tables_with patterns in
    let of_tables = have_with patterns in
    ap (λ (v : ShownBundle). Ok v.sets) (bundle-once others text (bundle_with others other) (bundle_with others sets) (ok others of_tables) (are others of_tables))
sets_made patterns text (Err fault) ok err sets are =
    let others = tables_with patterns in
    let of_tables = have_with patterns in
    absurd (bundle-no_fault others text (bundle_with others sets) fault (are others of_tables) (err others of_tables))

-- a right answer about a text that has a fault over the patterns is this fault
pub sets_refused : (patterns : List ShownPattern) (text : List ℕ) (r : Result (List (List Member)) SetFault) → IfOk r (λ sets. AreSetsOver patterns text sets)
    → IfErr r (λ fault. IsFaultOver fault patterns text) → (fault : SetFault) → IsFaultOver fault patterns text → r ≡ Err fault
sets_refused patterns text (Ok other) ok err fault is =
    let others = tables_with patterns in
    let of_tables = have_with patterns in
    absurd (bundle-no_fault others text (bundle_with others other) fault (ok others of_tables) (is others of_tables))
sets_refused patterns text (Err other) ok err fault is =
    let others = tables_with patterns in
    let of_tables = have_with patterns in
    ap Err (fault-once others text other fault (err others of_tables) (is others of_tables))
