-- The six faults: each test decides its fault, and the first that stands is the one that is found.
use Rattle.std.proofs.Common.{◌≡◌, ℕ, ◌+◌, ◌-◌, ◌*◌, ◌<◌, ◌≤◌, Bool, true, false, ◌⊎◌, List, [], ◌∷◌, ◌++◌, length, take, drop, Option, Some, None}
use Rattle.std.proofs.Common.{Ok, Err, inl, inr, refl, sym, ◌∙◌, ap, arith, length-drop}
use Rattle.std.specs.Prelude.{nat_eq, nat_lt, nat_le, ◌&&◌, find}
use Rattle.std.specs.List.{AllByRecursion, list_all, starts_with}
use Rattle.std.specs.Option.{option_map_or}
use Rattle.std.proofs.lemmas.Bool.{and_from, and_parts, both_ways, cases_Bool, cond-true, cond-false, eq-eqb, eqb-true, le-leb, leb-true, lt-ltb}
use Rattle.std.proofs.lemmas.Bool.{le-ltb, ltb-true, ltb-false, not-false, not_from_true, true_from_ne_false}
use Rattle.std.proofs.Math.Seq.{take-length}
use Rattle.std.proofs.lemmas.Slice.Eq.{bytes_eq-Decides}
use Rattle.puz_board.specs.Masks.{numbers_of}
use Rattle.pat_place.specs.Patterns.{ShownPattern, IsAscending, IsPattern, most_tiles}
use Rattle.pat_place.proofs.MaskLemmas.{ascending-numbers_below}
use Rattle.byteorder.specs.Endian.{big_number}
use Rattle.tab_file.specs.Tables.{Table, entry_count}
use Rattle.tab_file.specs.HeadFields.{table_signature, side_in, size_in, spare_in, mask_in, entry_count_in}
use Rattle.tab_file.specs.HeadFaults.{Stands, IsFirstFault, earlier, first_fault, is_pattern, is_standing, pattern_in, table_of_file}
use Rattle.tab_file.specs.declared.headers.HeadFault.{HeadFault}
use Rattle.tab_file.specs.declared.headers.HeadFault.TheVariants.{T1, T2, T3, T4, T5, T6}

-- ---- what a file has where a fault doesn't stand in it

-- what bytes have in which this fault is not found
abbrev pub Passes : HeadFault → List ℕ → Type 0
Passes T1 file = 20 ≤ length file
Passes T2 file = take 5 file ≡ table_signature
Passes T3 file = (2 ≤ side_in file) × (side_in file ≤ 5)
Passes T4 file = IsPattern (pattern_in file) × (size_in file ≡ length (pattern_in file).tiles) × (spare_in file ≡ 0)
Passes T5 file = entry_count_in file ≡ entry_count (pattern_in file)
Passes T6 file = length file ≡ 20 + entry_count_in file

-- ---- the test of a pattern

tiles_test : (m : ℕ) (xs : List ℕ) → AllByRecursion (λ t. (0 < t) × (t < m)) xs → list_all (λ t. nat_lt 0 t && nat_lt t m) xs ≡ true
tiles_test m [] all = refl
tiles_test m (x ∷ xs) all = and_from _ _ (and_from _ _ (lt-ltb 0 x all.0.0) (lt-ltb x m all.0.1)) (tiles_test m xs all.1)

tiles_from_test : (m : ℕ) (xs : List ℕ) → list_all (λ t. nat_lt 0 t && nat_lt t m) xs ≡ true → AllByRecursion (λ t. (0 < t) × (t < m)) xs
tiles_from_test m [] e = tt
tiles_from_test m (x ∷ xs) e =
    let parts = and_parts (nat_lt 0 x && nat_lt x m) (list_all (λ t. nat_lt 0 t && nat_lt t m) xs) e in
    let one = and_parts (nat_lt 0 x) (nat_lt x m) parts.0 in
    ((ltb-true 0 x one.0, ltb-true x m one.1), tiles_from_test m xs parts.1)

is_pattern-true : (p : ShownPattern) → IsPattern p → is_pattern p ≡ true
is_pattern-true p good =
    and_from _ _
    (and_from _ _
    (and_from _ _
    (and_from _ _ (le-leb 2 p.side good.low) (le-leb p.side 5 good.high))
    (tiles_test (p.side * p.side) p.tiles good.tiles))
    (lt-ltb 0 (length p.tiles) good.some))
    (le-leb (length p.tiles) (most_tiles p.side) good.most)

is_pattern-from : (p : ShownPattern) → IsAscending p.tiles → is_pattern p ≡ true → IsPattern p
is_pattern-from p up e =
    let most = and_parts (nat_le 2 p.side && nat_le p.side 5 && list_all (λ t. nat_lt 0 t && nat_lt t (p.side * p.side)) p.tiles && nat_lt 0
    (length p.tiles)) (nat_le (length p.tiles) (most_tiles p.side)) e in
    let some = and_parts (nat_le 2 p.side && nat_le p.side 5 && list_all (λ t. nat_lt 0 t && nat_lt t (p.side * p.side)) p.tiles)
    (nat_lt 0 (length p.tiles)) most.0 in
    let tiles = and_parts (nat_le 2 p.side && nat_le p.side 5) (list_all (λ t. nat_lt 0 t && nat_lt t (p.side * p.side)) p.tiles) some.0 in
    let side = and_parts (nat_le 2 p.side) (nat_le p.side 5) tiles.0 in
    record {
      low = leb-true 2 p.side side.0;
      high = leb-true p.side 5 side.1;
      ascending = up;
      tiles = tiles_from_test (p.side * p.side) p.tiles tiles.1;
      some = ltb-true 0 (length p.tiles) some.1;
      most = leb-true (length p.tiles) (most_tiles p.side) most.1;
    }

-- ---- each test decides

passes-test : (f : HeadFault) (file : List ℕ) → Passes f file → is_standing f file ≡ false
passes-test T1 file p = le-ltb (length file) 20 p
passes-test T2 file p = not_from_true _ ((bytes_eq-Decides table_signature (take 5 file)).1 (sym p))
passes-test T3 file p = not_from_true _ (and_from _ _ (le-leb 2 (side_in file) p.0) (le-leb (side_in file) 5 p.1))
passes-test T4 file p = not_from_true _ (and_from _ _
    (and_from _ _ (is_pattern-true (pattern_in file) p.0) (eq-eqb (size_in file) (length (pattern_in file).tiles) p.1)) (eq-eqb (spare_in file) 0 p.2))
passes-test T5 file p = not_from_true _ (eq-eqb (entry_count_in file) (entry_count (pattern_in file)) p)
passes-test T6 file p = not_from_true _ (eq-eqb (length file) (20 + entry_count_in file) p)

passes-from : (f : HeadFault) (file : List ℕ) → is_standing f file ≡ false → Passes f file
passes-from T1 file e = ltb-false (length file) 20 e
passes-from T2 file e = sym ((bytes_eq-Decides table_signature (take 5 file)).0 (not-false _ e))
passes-from T3 file e =
    let both = and_parts (nat_le 2 (side_in file)) (nat_le (side_in file) 5) (not-false _ e) in
    (leb-true 2 (side_in file) both.0, leb-true (side_in file) 5 both.1)
passes-from T4 file e =
    let spare = and_parts (is_pattern (pattern_in file) && nat_eq (size_in file) (length (pattern_in file).tiles)) (nat_eq (spare_in file) 0) (not-false _ e) in
    let size = and_parts (is_pattern (pattern_in file)) (nat_eq (size_in file) (length (pattern_in file).tiles)) spare.0 in (
      is_pattern-from (pattern_in file) (ascending-numbers_below 32 (mask_in file)) size.0,
      eqb-true (size_in file) (length (pattern_in file).tiles) size.1,
      eqb-true (spare_in file) 0 spare.1,
    )
passes-from T5 file e = eqb-true (entry_count_in file) (entry_count (pattern_in file)) (not-false _ e)
passes-from T6 file e = eqb-true (length file) (20 + entry_count_in file) (not-false _ e)

Stands-from : (f : HeadFault) (file : List ℕ) → is_standing f file ≡ true → Stands f file
Stands-from T1 file e = ltb-true (length file) 20 e
Stands-from T2 file e = λ p. both_ways (is_standing T2 file) (passes-test T2 file p) e
Stands-from T3 file e = λ p. both_ways (is_standing T3 file) (passes-test T3 file p) e
Stands-from T4 file e = λ p. both_ways (is_standing T4 file) (passes-test T4 file p) e
Stands-from T5 file e = λ p. both_ways (is_standing T5 file) (passes-test T5 file p) e
Stands-from T6 file e = λ p. both_ways (is_standing T6 file) (passes-test T6 file p) e

passes-stands : (f : HeadFault) (file : List ℕ) → Passes f file → ¬ Stands f file
passes-stands T1 file p s = omega arith
passes-stands T2 file p s = s p
passes-stands T3 file p s = s p
passes-stands T4 file p s = s p
passes-stands T5 file p s = s p
passes-stands T6 file p s = s p

-- ---- the first that stands

-- the six faults in the order in which they are tested
abbrev pub all_faults : List HeadFault
all_faults = T1 ∷ T2 ∷ T3 ∷ T4 ∷ T5 ∷ T6 ∷ []

abbrev later : HeadFault → List HeadFault
later T1 = T2 ∷ T3 ∷ T4 ∷ T5 ∷ T6 ∷ []
later T2 = T3 ∷ T4 ∷ T5 ∷ T6 ∷ []
later T3 = T4 ∷ T5 ∷ T6 ∷ []
later T4 = T5 ∷ T6 ∷ []
later T5 = T6 ∷ []
later T6 = []

module _ (test : HeadFault → Bool) where
  none_in : (fs : List HeadFault) → AllByRecursion (λ g. test g ≡ false) fs → find test fs ≡ None
  none_in [] none = refl
  none_in (f ∷ fs) none = cond-false (test f) (Some f) (find test fs) none.0 ∙ none_in fs none.1

  first_in : (before : List HeadFault) (f : HeadFault) (rest : List HeadFault) → AllByRecursion (λ g. test g ≡ false) before → test f ≡ true
      → find test (before ++ f ∷ rest) ≡ Some f
  first_in [] f rest none e = cond-true (test f) (Some f) (find test rest) e
  first_in (g ∷ gs) f rest none e = cond-false (test g) (Some g) (find test (gs ++ f ∷ rest)) none.0 ∙ first_in gs f rest none.1 e

  first_of : (f : HeadFault) → AllByRecursion (λ g. test g ≡ false) (earlier f) → test f ≡ true → find test all_faults ≡ Some f
  first_of T1 none e = first_in (earlier T1) T1 (later T1) none e
  first_of T2 none e = first_in (earlier T2) T2 (later T2) none e
  first_of T3 none e = first_in (earlier T3) T3 (later T3) none e
  first_of T4 none e = first_in (earlier T4) T4 (later T4) none e
  first_of T5 none e = first_in (earlier T5) T5 (later T5) none e
  first_of T6 none e = first_in (earlier T6) T6 (later T6) none e

  abbrev First : HeadFault → Type 0
  First f = AllByRecursion (λ g. test g ≡ false) (earlier f) × (test f ≡ true)

  -- either one of them is the first, or there is none
  some_or_none : ((f : HeadFault) × First f) ⊎ AllByRecursion (λ g. test g ≡ false) all_faults
  some_or_none = elim (cases_Bool (test T1)) [
    | inl e ↦ inl (T1, (tt, e))
    | inr a ↦ elim (cases_Bool (test T2)) [
      | inl e ↦ inl (T2, ((a, tt), e))
      | inr b ↦ elim (cases_Bool (test T3)) [
        | inl e ↦ inl (T3, ((a, (b, tt)), e))
        | inr d ↦ elim (cases_Bool (test T4)) [
          | inl e ↦ inl (T4, ((a, (b, (d, tt))), e))
          | inr g ↦ elim (cases_Bool (test T5)) [
            | inl e ↦ inl (T5, ((a, (b, (d, (g, tt)))), e))
            | inr h ↦ elim (cases_Bool (test T6)) [
              | inl e ↦ inl (T6, ((a, (b, (d, (g, (h, tt))))), e))
              | inr k ↦ inr (a, (b, (d, (g, (h, (k, tt))))))
            ]
          ]
        ]
      ]
    ]
  ]

all_map : (P Q : HeadFault → Type 0) → ((g : HeadFault) → P g → Q g) → (fs : List HeadFault) → AllByRecursion P fs → AllByRecursion Q fs
all_map P Q h [] all = tt
all_map P Q h (f ∷ fs) all = (h f all.0, all_map P Q h fs all.1)

-- the table of a file in which no fault stands
abbrev pub table_in : List ℕ → Table
table_in file = record { pattern = pattern_in file; entries = drop 20 file }

module _ (file : List ℕ) where
  from_found : (o : Option HeadFault) → first_fault file ≡ o → table_of_file file ≡ option_map_or Err o (Ok (table_in file))
  unfolding table_of_file
  from_found o e = ap (λ x. option_map_or Err x (Ok (table_in file))) e

  found : (o : Option HeadFault) → find (λ f. is_standing f file) all_faults ≡ o → first_fault file ≡ o
  unfolding first_fault
  found o e = e

  -- the first fault whose test is true is what is read of the bytes
  pub table_of_file-first : (f : HeadFault) → First (λ f. is_standing f file) f → table_of_file file ≡ Err f
  table_of_file-first f w = from_found (Some f) (found (Some f) (first_of (λ f. is_standing f file) f w.0 w.1))

  -- where no fault's test is true, the table in the bytes is what is read of them
  pub table_of_file-none : AllByRecursion (λ g. is_standing g file ≡ false) all_faults → table_of_file file ≡ Ok (table_in file)
  table_of_file-none w = from_found None (found None (none_in (λ f. is_standing f file) all_faults w))

  -- a fault that stands, where the file passes what comes before
  pub refused : (f : HeadFault) → AllByRecursion (λ g. Passes g file) (earlier f) → ¬ Passes f file → Err f ≡ table_of_file file
  refused f before fails = sym (table_of_file-first f (
    all_map (λ g. Passes g file) (λ g. is_standing g file ≡ false) (λ g p. passes-test g file p) (earlier f) before,
    true_from_ne_false (is_standing f file) (λ e. fails (passes-from f file e)),
  ))

  -- bytes that pass all six faults are read as the table in them
  pub accepted : AllByRecursion (λ g. Passes g file) all_faults → table_of_file file ≡ Ok (table_in file)
  accepted all = table_of_file-none (all_map (λ g. Passes g file) (λ g. is_standing g file ≡ false) (λ g p. passes-test g file p) all_faults all)

  IsFirstFault-from : (f : HeadFault) → First (λ f. is_standing f file) f → IsFirstFault f file
  IsFirstFault-from f w = record {
    stands = Stands-from f file w.1;
    first = all_map (λ g. is_standing g file ≡ false) (λ g. ¬ Stands g file) (λ g e. passes-stands g file (passes-from g file e)) (earlier f) w.0;
  }

  passes_unless : (f : HeadFault) → ¬ Stands f file → Passes f file
  passes_unless f none = elim (cases_Bool (is_standing f file)) [ inl e ↦ absurd (none (Stands-from f file e)) | inr e ↦ passes-from f file e ]

  -- the first fault of bytes is what is read of them
  pub table_of_file-fault : (f : HeadFault) → IsFirstFault f file → table_of_file file ≡ Err f
  table_of_file-fault f is = sym (refused f (all_map (λ g. ¬ Stands g file) (λ g. Passes g file) passes_unless (earlier f) is.first)
      (λ passes. passes-stands f file passes is.stands))

  -- bytes have a first fault, which is read of them, or pass all faults and are read as a table
  pub which : ((f : HeadFault) × (table_of_file file ≡ Err f) × IsFirstFault f file)
      ⊎ ((table_of_file file ≡ Ok (table_in file)) × AllByRecursion (λ g. Passes g file) all_faults)
  which = elim (some_or_none (λ f. is_standing f file)) [
    | inl w ↦ inl (w.0, table_of_file-first w.0 w.1, IsFirstFault-from w.0 w.1)
    | inr w ↦ inr (table_of_file-none w, all_map (λ g. is_standing g file ≡ false) (λ g. Passes g file) (λ g e. passes-from g file e) all_faults w)
  ]

-- ---- what the calls of the standard library and of the patterns say

-- where the test for the signature is true, the bytes begin with it
pub begins-from : (file : List ℕ) (r : Bool) → r ≡ starts_with nat_eq file table_signature → r ≡ true → Passes T2 file
begins-from file r e is_so = sym ((bytes_eq-Decides table_signature (take 5 file)).0 (sym e ∙ is_so))

-- where bytes begin with the signature, the test for it is true
pub begins-test : (file : List ℕ) (r : Bool) → r ≡ starts_with nat_eq file table_signature → Passes T2 file → r ≡ true
begins-test file r e begins = e ∙ (bytes_eq-Decides table_signature (take 5 file)).1 (sym begins)

-- the bytes from a place on
pub drop-rest : (i : ℕ) (file : List ℕ) → take (length file - i) (drop i file) ≡ drop i file
drop-rest i file = ap (λ n. take n (drop i file)) (sym (length-drop i file)) ∙ take-length (drop i file)

-- the side and the mask that are read make the pattern that the header names
pub pattern_named : (file : List ℕ) (side mask : ℕ) → side ≡ side_in file → mask ≡ big_number 4 (take (length file - 8) (drop 8 file))
    → let p : ShownPattern = record { side = side; tiles = numbers_of mask } in p ≡ pattern_in file
pattern_named file side mask e f = λ i. record { side = e i; tiles = numbers_of (is_mask i) }
  where
    is_mask : mask ≡ big_number 4 (drop 8 file)
    is_mask = f ∙ ap (big_number 4) (drop-rest 8 file)

-- the pattern that the header names, and all bytes behind the header, make the table in the bytes
pub table_named : (file : List ℕ) {p : ShownPattern} → p ≡ pattern_in file
    → let t : Table = record { pattern = p; entries = take (length file - 20) (drop 20 file) } in t ≡ table_in file
table_named file e = λ i. record { pattern = e i; entries = drop-rest 20 file i }
