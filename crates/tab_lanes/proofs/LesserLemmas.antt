-- The lesser bytes of two vectors, and of a column that is taken in place by place.
use Rattle.std.proofs.Common.{◌≡◌, ℕ, ◌+◌, ◌-◌, ◌<◌, ◌≤◌, ◌⊎◌, inl, inr, Bool, true, false, cond, ltb, ltb-true, ltb-false, List, map, length, get_or}
use Rattle.std.proofs.Common.{min, refl, sym, ap, ◌∙◌, subst, arith, w8}
use Rattle.std.proofs.lemmas.Bool.{cases_lt}
use Rattle.std.proofs.lemmas.List.{ext_get_or}
use Rattle.std.proofs.lemmas.Simd.{tops_compared, length-zip2, get_or-zip2, length-sel_l, get_or-sel_l, length-chunk, get_or-chunk, length-put_chunk}
use Rattle.std.proofs.lemmas.Simd.{get_or-put_chunk_below, get_or-put_chunk_at, get_or-put_chunk_above}
use lib.Lanes.{zip2, sel_l, top, chunk, put_chunk}
use Rattle.tab_lanes.specs.Columns.{AreLesserBetween}

smaller : (a b : ℕ) → cond (ltb a b) a b ≡ min a b
smaller a b = by (ltb a b) refl
  where
    by : (t : Bool) → ltb a b ≡ t → cond t a b ≡ min a b
    by true e = let l = ltb-true a b e in omega arith
    by false e = let l = ltb-false a b e in omega arith

-- what `simd_min` gives
abbrev lesser : List ℕ → List ℕ → List ℕ
lesser xs ys = sel_l (map (top 7) (zip2 (λ a b. cond (ltb a b) 255 0) xs ys)) xs ys

module _ (xs ys : List ℕ) (same : length xs ≡ length ys) where
  is : lesser xs ys ≡ sel_l (zip2 ltb xs ys) xs ys
  is = ap (λ ms. sel_l ms xs ys) (tops_compared w8 ltb xs ys)

  length-lesser : length (lesser xs ys) ≡ length xs
  length-lesser = let long = length-zip2 ltb xs ys same in ap length is ∙ length-sel_l (zip2 ltb xs ys) xs ys long (omega arith) ∙ long

  get_or-lesser : (i : ℕ) → i < length xs → get_or (lesser xs ys) i 0 ≡ min (get_or xs i 0) (get_or ys i 0)
  get_or-lesser i l =
      let long = length-zip2 ltb xs ys same in
      ap (λ zs. get_or zs i 0) is ∙ get_or-sel_l (zip2 ltb xs ys) xs ys i 0 (omega arith) l (omega arith) ∙
      ap (λ t. cond t (get_or xs i 0) (get_or ys i 0)) (get_or-zip2 ltb xs ys i 0 0 false l (omega arith)) ∙
      smaller (get_or xs i 0) (get_or ys i 0)

module _ (n : ℕ) (old others : List ℕ) (from at : ℕ) (now : List ℕ) (same : length old ≡ length others) (room : at + n ≤ length now)
    (so_far : AreLesserBetween old others from at now) (on : from ≤ at) where
  abbrev block : List ℕ
  block = chunk at n now

  abbrev other_block : List ℕ
  other_block = chunk at n others

  long : length block ≡ n
  long = length-chunk at n now room

  other_long : length other_block ≡ n
  other_long = length-chunk at n others (let e = so_far.len in omega arith)

  abbrev new : List ℕ
  new = put_chunk at now (lesser block other_block)

  lesser_long : length (lesser block other_block) ≡ n
  lesser_long = length-lesser block other_block (long ∙ sym other_long) ∙ long

  at_block : (j : ℕ) → j < n → get_or new (at + j) 0 ≡ min (get_or old (at + j) 0) (get_or others (at + j) 0)
  at_block j l =
      get_or-put_chunk_at at now (lesser block other_block) j 0 (omega (arith, lesser_long)) (omega (arith, lesser_long)) ∙
      get_or-lesser block other_block (long ∙ sym other_long) j (omega (arith, long)) ∙
      (λ i. min (get_or-chunk at n now j 0 l i) (get_or-chunk at n others j 0 l i)) ∙
      ap (λ a. min a (get_or others (at + j) 0)) (so_far.outside (at + j) (inr (omega arith)))

  inside : (i : ℕ) → from ≤ i → i < at + n → get_or new i 0 ≡ min (get_or old i 0) (get_or others i 0)
  inside i low high = elim (cases_lt i at) [
    | inl l ↦ get_or-put_chunk_below at now (lesser block other_block) i 0 l ∙ so_far.inside i low l
    | inr l ↦ subst (λ k. get_or new k 0 ≡ min (get_or old k 0) (get_or others k 0)) (let e : at + (i - at) ≡ i = omega arith in
        e) (at_block (i - at) (omega arith))
  ]

  outside : (i : ℕ) → (i < from) ⊎ (at + n ≤ i) → get_or new i 0 ≡ get_or old i 0
  outside i where_it_is = elim where_it_is [
    | inl l ↦ get_or-put_chunk_below at now (lesser block other_block) i 0 (omega arith) ∙ so_far.outside i (inl l)
    | inr l ↦ get_or-put_chunk_above at now (lesser block other_block) i 0 (omega (arith, lesser_long)) ∙ so_far.outside i (inr (omega arith))
  ]

  -- with n bytes more taken in, the column has the lesser ones n places further
  pub taken_in : AreLesserBetween old others from (at + n) new
  taken_in = record { len = length-put_chunk at now (lesser block other_block) ∙ so_far.len; inside = inside; outside = outside }

-- two stretches that make up the whole
pub all_lesser : (old others half new : List ℕ) (to end : ℕ) → length old ≡ length others → AreLesserBetween old others 0 to half
    → AreLesserBetween half others to end new
    → to ≤ length old → length old < end + 1 → new ≡ zip2 min old others
all_lesser old others half new to end same first second front whole =
    ext_get_or 0 new (zip2 min old others) (second.len ∙ first.len ∙ sym (length-zip2 min old others same)) (λ i l.
    let inside : i < length old = let e = first.len in let f = second.len in omega arith in
    each i inside ∙ sym (get_or-zip2 min old others i 0 0 0 inside (omega arith)))
  where
    each : (i : ℕ) → i < length old → get_or new i 0 ≡ min (get_or old i 0) (get_or others i 0)
    each i l = elim (cases_lt i to) [
      | inl before ↦ second.outside i (inl before) ∙ first.inside i (omega arith) before
      | inr behind ↦ second.inside i behind (omega arith) ∙ ap (λ a. min a (get_or others i 0)) (first.outside i (inr behind))
    ]
