-- The greatest counts of lanes, each of every so many bytes of a column.
use Rattle.std.proofs.Common.{◌≡◌, ℕ, ◌+◌, ◌-◌, ◌<◌, ◌≤◌, ◌⊎◌, inl, inr, Bool, true, false, cond, ltb, leb, ltb-true, ltb-false, leb-true, leb-false}
use Rattle.std.proofs.Common.{List, map, length, get_or, replicate, refl, sym, ap, ◌∙◌, subst, arith, w8}
use Rattle.std.proofs.lemmas.Bool.{cases_lt}
use Rattle.std.proofs.lemmas.Simd.{tops_compared, length-zip2, get_or-zip2, length-sel_l, get_or-sel_l, length-chunk, get_or-chunk, length-replicate}
use Rattle.std.proofs.lemmas.Simd.{get_or-replicate}
use lib.Lanes.{zip2, sel_l, top, chunk}
use Rattle.tab_file.specs.EntryBytes.{greatest_count}

-- what n lanes say of the first bytes: no count is above all lanes, and each lane is one of them or 0
pub record AreGreatest (bytes : List ℕ) (first n : ℕ) (lanes : List ℕ) : Type 0 where
  pub len : length lanes ≡ n
  pub most : (j : ℕ) → j < n → get_or lanes j 0 ≤ greatest_count
  pub bound : (i : ℕ) → i < first → get_or bytes i 0 ≤ greatest_count → (j : ℕ) × (j < n) × (get_or bytes i 0 ≤ get_or lanes j 0)
  pub reached : (j : ℕ) → j < n → (get_or lanes j 0 ≡ 0) ⊎ ((i : ℕ) × (i < first) × (get_or bytes i 0 ≡ get_or lanes j 0))

-- ---- one lane

abbrev larger : ℕ → ℕ → ℕ
larger a b = cond (ltb a b) b a

larger_of : (a b : ℕ) → (a ≤ larger a b) × (b ≤ larger a b) × ((larger a b ≡ a) ⊎ (larger a b ≡ b))
larger_of a b = by (ltb a b) refl
  where
    by : (t : Bool) → ltb a b ≡ t → (a ≤ cond t b a) × (b ≤ cond t b a) × ((cond t b a ≡ a) ⊎ (cond t b a ≡ b))
    by true e = let l = ltb-true a b e in (omega arith, omega arith, inr refl)
    by false e = let l = ltb-false a b e in (omega arith, omega arith, inl refl)

abbrev count_or_0 : ℕ → ℕ
count_or_0 a = cond (leb a 253) a 0

count_of : (a : ℕ) → (a ≤ greatest_count → count_or_0 a ≡ a) × (count_or_0 a ≤ greatest_count) × ((count_or_0 a ≡ 0) ⊎ (count_or_0 a ≡ a))
count_of a = by (leb a 253) refl
  where
    by : (t : Bool) → leb a 253 ≡ t → (a ≤ greatest_count → cond t a 0 ≡ a) × (cond t a 0 ≤ greatest_count) × ((cond t a 0 ≡ 0) ⊎ (cond t a 0 ≡ a))
    by true e = (λ l. refl, leb-true a 253 e, inr refl)
    by false e = (λ l. absurd (let g = leb-false a 253 e in omega arith), omega arith, inl refl)

-- ---- all lanes

-- what `simd_max` gives
abbrev larger_lanes : List ℕ → List ℕ → List ℕ
larger_lanes xs ys = sel_l (map (top 7) (zip2 (λ a b. cond (ltb a b) 255 0) xs ys)) ys xs

-- the lanes that are counts, and 0 in place of each other one
abbrev counts_or_0 : ℕ → List ℕ → List ℕ
counts_or_0 n xs = sel_l (map (top 7) (zip2 (λ a b. cond (leb a b) 255 0) xs (replicate n 253))) xs (replicate n 0)

module _ (test : ℕ → ℕ → Bool) (xs ys us vs : List ℕ) (same : length xs ≡ length ys) (us_long : length us ≡ length xs) (vs_long : length vs ≡ length xs) where
  abbrev chosen : List ℕ
  chosen = sel_l (map (top 7) (zip2 (λ a b. cond (test a b) 255 0) xs ys)) us vs

  tested : chosen ≡ sel_l (zip2 test xs ys) us vs
  tested = ap (λ ms. sel_l ms us vs) (tops_compared w8 test xs ys)

  length-chosen : length chosen ≡ length xs
  length-chosen = let long = length-zip2 test xs ys same in ap length tested ∙ length-sel_l (zip2 test xs ys) us vs (omega arith) (omega arith) ∙ long

  get_or-chosen : (i : ℕ) → i < length xs → get_or chosen i 0 ≡ cond (test (get_or xs i 0) (get_or ys i 0)) (get_or us i 0) (get_or vs i 0)
  get_or-chosen i l =
      let long = length-zip2 test xs ys same in
      ap (λ zs. get_or zs i 0) tested ∙ get_or-sel_l (zip2 test xs ys) us vs i 0 (omega arith) (omega arith) (omega arith) ∙
      ap (λ t. cond t (get_or us i 0) (get_or vs i 0)) (get_or-zip2 test xs ys i 0 0 false l (omega arith))

module _ (n : ℕ) (xs : List ℕ) (long : length xs ≡ n) where
  length-counts_or_0 : length (counts_or_0 n xs) ≡ n
  length-counts_or_0 = length-chosen leb xs (replicate n 253) xs (replicate n 0) (long ∙ sym (length-replicate n 253)) refl
      (length-replicate n 0 ∙ sym long) ∙ long

  get_or-counts_or_0 : (j : ℕ) → j < n → get_or (counts_or_0 n xs) j 0 ≡ count_or_0 (get_or xs j 0)
  get_or-counts_or_0 j l =
      get_or-chosen leb xs (replicate n 253) xs (replicate n 0) (long ∙ sym (length-replicate n 253)) refl (length-replicate n 0 ∙ sym long) j (omega arith) ∙
      (λ i. cond (leb (get_or xs j 0) (get_or-replicate n j 253 0 l i)) (get_or xs j 0) (get_or-replicate n j 0 0 l i))

-- ---- a step, which takes in the next n bytes
module _ (bytes : List ℕ) (at n : ℕ) (lanes : List ℕ) (room : at + n ≤ length bytes) (so_far : AreGreatest bytes at n lanes) where
  block_long : length (chunk at n bytes) ≡ n
  block_long = length-chunk at n bytes room

  counts_long : length (counts_or_0 n (chunk at n bytes)) ≡ n
  counts_long = length-counts_or_0 n (chunk at n bytes) block_long

  abbrev new : List ℕ
  new = larger_lanes lanes (counts_or_0 n (chunk at n bytes))

  new_long : length new ≡ n
  new_long = length-chosen ltb lanes (counts_or_0 n (chunk at n bytes)) (counts_or_0 n (chunk at n bytes)) lanes (so_far.len ∙ sym counts_long)
      (counts_long ∙ sym so_far.len) refl ∙ so_far.len

  is : (j : ℕ) → j < n → get_or new j 0 ≡ larger (get_or lanes j 0) (count_or_0 (get_or bytes (at + j) 0))
  is j l =
      get_or-chosen ltb lanes (counts_or_0 n (chunk at n bytes)) (counts_or_0 n (chunk at n bytes)) lanes (so_far.len ∙ sym counts_long)
      (counts_long ∙ sym so_far.len) refl j (let e = so_far.len in omega arith) ∙
      ap (larger (get_or lanes j 0)) (get_or-counts_or_0 n (chunk at n bytes) block_long j l ∙ ap count_or_0 (get_or-chunk at n bytes j 0 l))

  most : (j : ℕ) → j < n → get_or new j 0 ≤ greatest_count
  most j l =
      let old = so_far.most j l in
      let count = (count_of (get_or bytes (at + j) 0)).1 in
      elim (larger_of (get_or lanes j 0) (count_or_0 (get_or bytes (at + j) 0))).2 [
        | inl e ↦ (let f = is j l ∙ e in omega arith)
        | inr e ↦ (let f = is j l ∙ e in omega arith)
      ]

  bound : (i : ℕ) → i < at + n → get_or bytes i 0 ≤ greatest_count → (j : ℕ) × (j < n) × (get_or bytes i 0 ≤ get_or new j 0)
  bound i l small = elim (cases_lt i at) [
    | inl before ↦
        let old = so_far.bound i before small in
        let up = (larger_of (get_or lanes old.0 0) (count_or_0 (get_or bytes (at + old.0) 0))).0 in
        (old.0, old.1, let e = is old.0 old.1 in let least = old.2 in omega arith)
    | inr behind ↦
        let j = i - at in
        let here : at + j ≡ i = omega arith in
        let l : j < n = omega arith in
        let up = (larger_of (get_or lanes j 0) (count_or_0 (get_or bytes (at + j) 0))).1 in
        let same = (count_of (get_or bytes (at + j) 0)).0 (subst (λ k. get_or bytes k 0 ≤ greatest_count) (sym here) small) in
        let byte = ap (λ k. get_or bytes k 0) here in
        (j, l, let e = is j l in omega arith)
  ]

  reached : (j : ℕ) → j < n → (get_or new j 0 ≡ 0) ⊎ ((i : ℕ) × (i < at + n) × (get_or bytes i 0 ≡ get_or new j 0))
  reached j l = elim (larger_of (get_or lanes j 0) (count_or_0 (get_or bytes (at + j) 0))).2 [
    | inl e ↦ elim (so_far.reached j l) [
      | inl none ↦ inl (is j l ∙ e ∙ none)
      | inr found ↦ inr (found.0, let m = found.1 in omega arith, found.2 ∙ sym (is j l ∙ e))
    ]
    | inr e ↦ elim (count_of (get_or bytes (at + j) 0)).2 [
      | inl none ↦ inl (is j l ∙ e ∙ none)
      | inr found ↦ inr (at + j, omega arith, sym (is j l ∙ e ∙ found))
    ]
  ]

  -- lanes that take in the next n bytes, where these are counts, are the greatest counts of n bytes more
  pub greatest_more : AreGreatest bytes (at + n) n new
  greatest_more = record { len = new_long; most = most; bound = bound; reached = reached }
