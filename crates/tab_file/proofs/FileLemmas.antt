-- Table files are the bytes in which no fault stands.
use Rattle.std.proofs.Common.{◌≡◌, ℕ, ◌+◌, ◌-◌, ◌<◌, ◌≤◌, List, [], ◌∷◌, ◌++◌, length, take, drop, Result, Ok, Err, inl, inr, refl, sym, ◌∙◌, ap}
use Rattle.std.proofs.Common.{subst, arith, length-drop, get_or-take, take-take}
use Rattle.std.specs.Prelude.{IfErr, IfOk, slice_index}
use Rattle.std.proofs.lemmas.List.{get_or-drop, take_more}
use Rattle.pat_place.specs.Patterns.{IsPattern}
use Rattle.tab_file.specs.Tables.{Table, entry_count}
use Rattle.tab_file.specs.TableFiles.{IsTableFile}
use Rattle.tab_file.specs.HeadFields.{table_signature, side_in, size_in, spare_in, entry_count_in}
use Rattle.tab_file.specs.HeadFaults.{IsFirstFault, pattern_in, table_of_file}
use Rattle.tab_file.specs.declared.headers.HeadFault.{HeadFault}
use Rattle.tab_file.specs.declared.headers.HeadFault.TheVariants.{T1, T2, T4, T5, T6}
use Rattle.tab_file.proofs.FaultLemmas.{Passes, accepted, table_in, table_of_file-fault, which}

-- ---- the first eight bytes are the signature and three numbers

module _ (file : List ℕ) (side size : ℕ) where
  abbrev Begins : Type 0
  Begins = take 8 file ≡ table_signature ++ side ∷ size ∷ 0 ∷ []

  Begins-from : 20 ≤ length file → take 5 file ≡ table_signature → side_in file ≡ side → size_in file ≡ size → spare_in file ≡ 0 → Begins
  Begins-from room begins is_side is_size spare =
      take_more file 7 0 (omega arith) ∙ (λ i. seven i ++ spare i ∷ [])
    where
      six : take 6 file ≡ table_signature ++ side ∷ []
      six = take_more file 5 0 (omega arith) ∙ (λ i. begins i ++ is_side i ∷ [])

      seven : take 7 file ≡ table_signature ++ side ∷ size ∷ []
      seven = take_more file 6 0 (omega arith) ∙ (λ i. six i ++ is_size i ∷ [])

  module _ (begins : Begins) where
    byte : (i : ℕ) → i < 8 → slice_index file i ≡ slice_index (table_signature ++ side ∷ size ∷ 0 ∷ []) i
    byte i low = sym (get_or-take 8 file i 0 low) ∙ ap (λ bytes. slice_index bytes i) begins

    begins-signature : take 5 file ≡ table_signature
    begins-signature = sym (take-take 5 8 file (omega arith)) ∙ ap (take 5) begins

    begins-side : side_in file ≡ side
    begins-side = byte 5 (omega arith)

    begins-size : size_in file ≡ size
    begins-size = byte 6 (omega arith)

    begins-spare : spare_in file ≡ 0
    begins-spare = byte 7 (omega arith)

-- ---- files and their tables

module _ (t : Table) (file : List ℕ) (good : IsTableFile t file) where
  is_side : side_in file ≡ t.pattern.side
  is_side = begins-side file t.pattern.side (length t.pattern.tiles) good.begins

  pattern_is : pattern_in file ≡ t.pattern
  pattern_is = λ i. record { side = is_side i; tiles = good.mask i }

  table_is : table_in file ≡ t
  table_is = λ i. record { pattern = pattern_is i; entries = good.entries i }

  -- the file of a table is read as that table
  pub table_of_file-file : table_of_file file ≡ Ok t
  table_of_file-file = accepted file (
    good.room,
    (
      begins-signature file t.pattern.side (length t.pattern.tiles) good.begins,
      (
        (let l = good.table.pattern.low in let e = is_side in omega arith, let l = good.table.pattern.high in let e = is_side in omega arith),
        (
          (pattern, size ∙ ap (λ p. length p.tiles) (sym pattern_is), begins-spare file t.pattern.side (length t.pattern.tiles) good.begins),
          (
            count,
            (
              whole,
              tt,
            ),
          ),
        ),
      ),
    ),
  ) ∙ ap Ok table_is
    where
      pattern : IsPattern (pattern_in file)
      pattern = let same = sym pattern_is in subst IsPattern same good.table.pattern

      size : size_in file ≡ length t.pattern.tiles
      size = begins-size file t.pattern.side (length t.pattern.tiles) good.begins

      count : entry_count_in file ≡ entry_count (pattern_in file)
      count = good.count ∙ ap entry_count (sym pattern_is)

      whole : length file ≡ 20 + entry_count_in file
      whole =
          let room = good.room in
          let rest : length (drop 20 file) ≡ length file - 20 = length-drop 20 file in
          let entries : length (drop 20 file) ≡ entry_count_in file = ap length good.entries ∙ good.table.entries ∙ sym good.count in
          omega arith

-- a file that passes is one of the table in it
IsTableFile-passes : (file : List ℕ) → Passes T1 file → Passes T2 file → Passes T4 file → Passes T5 file → Passes T6 file → IsTableFile (table_in file) file
IsTableFile-passes file room begins pattern count whole = record {
  table = record {
    pattern = pattern.0;
    entries = (let rest : length (drop 20 file) ≡ length file - 20 = length-drop 20 file in
        let more : length file - 20 ≡ entry_count_in file = omega arith in rest ∙ more ∙ count);
  };
  room = room;
  begins = Begins-from file _ _ room begins refl pattern.1 pattern.2;
  mask = refl;
  count = count;
  entries = refl;
}

-- bytes that are read as a table are the file of that table
pub IfOk-table : (file : List ℕ) (r : Result Table HeadFault) → r ≡ table_of_file file → IfOk r (λ t. IsTableFile t file)
IfOk-table file (Err f) e = tt
IfOk-table file (Ok t) e = elim (which file) [
  | inl w ↦ absurd (let clash : Ok t ≡ Err w.0 = e ∙ w.1 in cc)
  | inr w ↦ let same : table_in file ≡ t = (let both : Ok t ≡ Ok (table_in file) = e ∙ w.0 in cc) in
      subst (λ t. IsTableFile t file) same (IsTableFile-passes file w.1.0 w.1.1.0 w.1.1.1.1.0 w.1.1.1.1.1.0 w.1.1.1.1.1.1.0)
]

-- a fault that is read of bytes is their first one
pub IfErr-first : (file : List ℕ) (r : Result Table HeadFault) → r ≡ table_of_file file → IfErr r (λ f. IsFirstFault f file)
IfErr-first file (Ok t) e = tt
IfErr-first file (Err f) e = elim (which file) [
  | inl w ↦ let same : w.0 ≡ f = (let both : Err f ≡ Err w.0 = e ∙ w.1 in cc) in subst (λ f. IsFirstFault f file) same w.2
  | inr w ↦ absurd (let clash : Err f ≡ Ok (table_in file) = e ∙ w.0 in cc)
]

-- a file has one table or one fault, and not both
module _ (file : List ℕ) where
  -- bytes are the file of at most one table
  pub table_one : (t u : Table) → IsTableFile t file → IsTableFile u file → t ≡ u
  table_one t u is also = let both : Ok t ≡ Ok u = sym (table_of_file-file t file is) ∙ table_of_file-file u file also in cc

  -- bytes have at most one first fault
  pub IsFirstFault-one : (f g : HeadFault) → IsFirstFault f file → IsFirstFault g file → f ≡ g
  IsFirstFault-one f g is also = let both : Err f ≡ Err g = sym (table_of_file-fault file f is) ∙ table_of_file-fault file g also in cc

  -- the file of a table has no first fault
  pub table_or_fault : (t : Table) (f : HeadFault) → IsTableFile t file → ¬ IsFirstFault f file
  table_or_fault t f is_file is = let clash : Err f ≡ Ok t = sym (table_of_file-fault file f is) ∙ table_of_file-file t file is_file in cc

-- the entries stand behind the header
pub slice_index-file : (t : Table) (file : List ℕ) → IsTableFile t file → (i : ℕ) → slice_index t.entries i ≡ slice_index file (20 + i)
slice_index-file t file good i = ap (λ es. slice_index es i) (sym good.entries) ∙ get_or-drop 20 file i 0
