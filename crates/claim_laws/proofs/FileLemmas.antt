-- The header of a table file is settled by its pattern.
use Rattle.std.proofs.Common.{◌≡◌, ◌∙◌, ◌+◌, ◌*◌, ◌≤◌, ◌<◌, ◌^◌, ap, ℕ, suc, List, [], ◌∷◌, ◌++◌, arith, drop, length, sym, take-append-drop}
use Rattle.std.specs.Prelude.{codes, slice_index}
use Rattle.std.proofs.Math.Seq.{drop-cons}
use Rattle.std.proofs.lemmas.List.{get_or-drop}
use Rattle.byteorder.specs.Endian.{big_from, big_number}
use Rattle.pat_place.specs.Patterns.{ShownPattern}
use Rattle.pat_place.proofs.MaskLemmas.{numbers_of-one}
use Rattle.tab_file.specs.Tables.{entry_count}
use Rattle.claim_laws.specs.TableFiles.{AreBytes, PatternsHaveOneExactFile}
use Rattle.claim_laws.proofs.ExactLemmas.{entries_one}

-- two texts with one byte that is the same, and the same behind it, are the same from there on
module _ (f g : List ℕ) (room : 20 ≤ length f) (also : 20 ≤ length g) where
  from : (i : ℕ) → i < 20 → slice_index f i ≡ slice_index g i → drop (suc i) f ≡ drop (suc i) g → drop i f ≡ drop i g
  from i low same rest =
      drop-cons f i 0 (omega (arith, room, low)) ∙ (λ k. same k ∷ rest k) ∙ sym (drop-cons g i 0 (omega (arith, also, low)))

-- four bytes make one number, and eight
four_low : (f : List ℕ) → AreBytes f → (i : ℕ) → big_from i 4 f < 2 ^ 32
four_low f p i =
    let a = p i in
    let b = p (suc i) in
    let c = p (suc (suc i)) in
    let d = p (suc (suc (suc i))) in
    omega (arith, a, b, c, d)

module _ (f g : List ℕ) (p : AreBytes f) (q : AreBytes g) where
  abbrev AreSame : ℕ → Type 0
  AreSame i = slice_index f i ≡ slice_index g i

  -- equal numbers are of the same bytes
  four : (i : ℕ) → big_from i 4 f ≡ big_from i 4 g → AreSame i × AreSame (suc i) × AreSame (suc (suc i)) × AreSame (suc (suc (suc i)))
  four i same =
      let a = p i in
      let b = p (suc i) in
      let c = p (suc (suc i)) in
      let d = p (suc (suc (suc i))) in
      let h = q i in
      let j = q (suc i) in
      let k = q (suc (suc i)) in
      let l = q (suc (suc (suc i))) in
      let first : slice_index f i ≡ slice_index g i = omega (arith, same, a, b, c, d, h, j, k, l) in
      let second : slice_index f (suc i) ≡ slice_index g (suc i) = omega (arith, same, a, b, c, d, h, j, k, l) in
      let third : slice_index f (suc (suc i)) ≡ slice_index g (suc (suc i)) = omega (arith, same, a, b, c, d, h, j, k, l) in
      (first, second, third, omega (arith, same, first, second, third))

  halves : big_number 8 f ≡ big_number 8 g → (big_from 0 4 f ≡ big_from 0 4 g) × (big_from 4 4 f ≡ big_from 4 4 g)
  halves same =
      let split = λ (h : List ℕ). big_from 0 8 h ≡ big_from 0 4 h * 2 ^ 32 + big_from 4 4 h in
      let of_f : split f = omega arith in
      let of_g : split g = omega arith in
      let a = four_low f p 4 in
      let b = four_low g q 4 in
      let high : big_from 0 4 f ≡ big_from 0 4 g = omega (arith, of_f, of_g, a, b, same) in
      (high, omega (arith, of_f, of_g, high, same))

-- a byte behind some others is one of the whole
behind : (i : ℕ) (f : List ℕ) (j : ℕ) → slice_index (drop i f) j ≡ slice_index f (i + j)
behind i f j = get_or-drop i f j 0

bytes_behind : (i : ℕ) (f : List ℕ) → AreBytes f → AreBytes (drop i f)
bytes_behind i f p j = let here = behind i f j in let low = p (i + j) in omega (arith, here, low)

same_behind : (i j : ℕ) (f g : List ℕ) → slice_index (drop i f) j ≡ slice_index (drop i g) j → slice_index f (i + j) ≡ slice_index g (i + j)
same_behind i j f g same = sym (behind i f j) ∙ same ∙ behind i g j

-- the header and the entries behind it are settled
pub one_file : PatternsHaveOneExactFile
one_file t u f g p q exact also same =
    let h = exact.is_file in
    let k = also.is_file in
    let here = bytes_behind 8 f p in
    let there = bytes_behind 8 g q in
    let tiles = ap (λ r. r.tiles) same in
    let mask = numbers_of-one (big_number 4 (drop 8 f)) (big_number 4 (drop 8 g)) (four_low (drop 8 f) here 0) (four_low (drop 8 g) there 0)
    (h.mask ∙ tiles ∙ sym k.mask) in
    let m = four (drop 8 f) (drop 8 g) here there 0 mask in
    let bytes = bytes_behind 12 f p in
    let others = bytes_behind 12 g q in
    let count = halves (drop 12 f) (drop 12 g) bytes others (h.count ∙ ap entry_count same ∙ sym k.count) in
    let high = four (drop 12 f) (drop 12 g) bytes others 0 count.0 in
    let low = four (drop 12 f) (drop 12 g) bytes others 4 count.1 in
    let entries = exact.is_file.entries ∙ entries_one t u same exact.is_file.table also.is_file.table exact.exact also.exact ∙ sym also.is_file.entries in
    let on = from f g h.room k.room in
    let d19 = on 19 (omega arith) (same_behind 12 7 f g low.3) entries in
    let d18 = on 18 (omega arith) (same_behind 12 6 f g low.2) d19 in
    let d17 = on 17 (omega arith) (same_behind 12 5 f g low.1) d18 in
    let d16 = on 16 (omega arith) (same_behind 12 4 f g low.0) d17 in
    let d15 = on 15 (omega arith) (same_behind 12 3 f g high.3) d16 in
    let d14 = on 14 (omega arith) (same_behind 12 2 f g high.2) d15 in
    let d13 = on 13 (omega arith) (same_behind 12 1 f g high.1) d14 in
    let d12 = on 12 (omega arith) (same_behind 12 0 f g high.0) d13 in
    let d11 = on 11 (omega arith) (same_behind 8 3 f g m.3) d12 in
    let d10 = on 10 (omega arith) (same_behind 8 2 f g m.2) d11 in
    let d9 = on 9 (omega arith) (same_behind 8 1 f g m.1) d10 in
    let d8 = on 8 (omega arith) (same_behind 8 0 f g m.0) d9 in
    let begins = h.begins ∙ ap (λ (r : ShownPattern). codes "PDBT" ++ 1 ∷ r.side ∷ length r.tiles ∷ 0 ∷ []) same ∙ sym k.begins in
    sym (take-append-drop 8 f) ∙ (λ i. begins i ++ d8 i) ∙ take-append-drop 8 g
