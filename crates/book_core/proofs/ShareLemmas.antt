-- The passes of a book stay shared out by each step, by a cut and by putting two shares together.
use Rattle.std.proofs.Common.{◌≡◌, ◌≢◌, ℕ, zero, suc, ◌+◌, ◌-◌, ◌<◌, ◌≤◌, cond, eqb, ltb, List, [], ◌∷◌, ◌++◌, length, map, set, replicate, Some, inl}
use Rattle.std.proofs.Common.{inr, refl, sym, ◌∙◌, ap, subst, arith, slice_get}
use Rattle.std.proofs.lemmas.Bool.{cond-true, cond-false, eq-eqb, le-ltb}
use Rattle.std.proofs.lemmas.Bool.Decides.{nat_tests}
use Rattle.std.proofs.lemmas.List.{length-set, length-replicate}
use Rattle.std.proofs.lemmas.List.Sums.{sum_by-cons, sum_by-append, sum_by_push}
use Rattle.book_core.specs.Passes.{Deeds, fresh}
use Rattle.book_core.specs.Books.{Book, start}
use Rattle.book_core.specs.Jobs.{once_below}
use Rattle.book_core.specs.Shares.{NumberedPass, numbered_pass, times_held, IsDealt, all_fresh, first, others, IsCounted}
use Rattle.book_core.proofs.ListLemmas.{sum_by-changed, sum_by-two, slice_get-set_same, slice_get-set_other, slice_get-set_cases}
use Rattle.book_core.proofs.ListLemmas.{slice_get-push_cases, slice_get-append_cases}

-- ---- how often a number is held

-- a pass that a share holds counts in it
times_held-some : (hs : List NumberedPass) (k : ℕ) (h : NumberedPass) → slice_get hs k ≡ Some h → 0 < times_held h.number hs
times_held-some [] k h e = cc
times_held-some (x ∷ hs) zero h e =
    let is : x ≡ h = cc in
    let one : cond {A = ℕ} (eqb x.number h.number) 1 0 ≡ 1 =
    cond-true {A = ℕ} (eqb x.number h.number) 1 0 (eq-eqb x.number h.number (ap (λ (y : NumberedPass). y.number) is)) in
    omega (arith, sum_by-cons (λ (y : NumberedPass). cond {A = ℕ} (eqb y.number h.number) 1 0) x hs)
times_held-some (x ∷ hs) (suc k) h e = omega (
  arith,
  times_held-some hs k h e,
  sum_by-cons (λ (y : NumberedPass). cond {A = ℕ} (eqb y.number h.number) 1 0) x hs,
)

times_held-alone : (w : ℕ) (p : Deeds) → times_held w (numbered_pass w p ∷ []) ≡ 1
times_held-alone w p = let one : cond {A = ℕ} (eqb w w) 1 0 ≡ 1 = cond-true {A = ℕ} (eqb w w) 1 0 (eq-eqb w w refl) in omega arith

once_below-le_one : (x n : ℕ) → once_below x n ≤ 1
once_below-le_one x n = grind (arith, nat_tests)

-- ---- the first of a share, and the others

times_held-cut : (w : ℕ) (hs : List NumberedPass) → times_held w (others hs) + times_held w (first hs) ≡ times_held w hs
times_held-cut w [] = refl
times_held-cut w (h ∷ hs) = omega (arith, sum_by-cons (λ (y : NumberedPass). cond {A = ℕ} (eqb y.number w) 1 0) h hs)

slice_get-first : (hs : List NumberedPass) (k : ℕ) (h : NumberedPass) → slice_get (first hs) k ≡ Some h → slice_get hs 0 ≡ Some h
slice_get-first [] k h e = cc
slice_get-first (x ∷ hs) zero h e = e
slice_get-first (x ∷ hs) (suc k) h e = cc

slice_get-others : (hs : List NumberedPass) (k : ℕ) (h : NumberedPass) → slice_get (others hs) k ≡ Some h → slice_get hs (suc k) ≡ Some h
slice_get-others [] k h e = cc
slice_get-others (x ∷ hs) k h e = e

-- ---- all passes, in the order of their numbers

times_held-all_fresh : (w k n : ℕ) → times_held w (all_fresh k n) + once_below w k ≡ once_below w (k + n)
times_held-all_fresh w k zero = let same : once_below w k ≡ once_below w (k + 0) = ap (once_below w) (let e : k ≡ k + 0 = omega arith in e) in omega arith
times_held-all_fresh w k (suc n) =
    let one : cond {A = ℕ} (eqb k w) 1 0 + once_below w k ≡ once_below w (suc k) = grind (arith, nat_tests) in
    let more = times_held-all_fresh w (suc k) n in
    let last : once_below w (suc k + n) ≡ once_below w (k + suc n) = ap (once_below w) (let e : suc k + n ≡ k + suc n = omega arith in e) in
    omega (arith, sum_by-cons (λ (y : NumberedPass). cond {A = ℕ} (eqb y.number w) 1 0) (numbered_pass k fresh) (all_fresh (suc k) n))

slice_get-all_fresh : (k n i : ℕ) (h : NumberedPass) → slice_get (all_fresh k n) i ≡ Some h → (h.deeds ≡ fresh) × (h.number ≡ k + i) × (i < n)
slice_get-all_fresh k zero i h e = cc
slice_get-all_fresh k (suc n) zero h e = let same : numbered_pass k fresh ≡ h = cc in
    (ap (λ (x : NumberedPass). x.deeds) (sym same), (let a : h.number ≡ k = ap (λ (x : NumberedPass). x.number) (sym same) in omega arith), omega arith)
slice_get-all_fresh k (suc n) (suc i) h e = let t = slice_get-all_fresh (suc k) n i h e in (t.0, omega (arith, t.1), omega (arith, t.2))

slice_get-replicate : (n i : ℕ) → i < n → slice_get (replicate n fresh) i ≡ Some fresh
slice_get-replicate zero i lt = absurd (omega arith)
slice_get-replicate (suc n) zero lt = refl
slice_get-replicate (suc n) (suc i) lt = slice_get-replicate n i (omega arith)

IsCounted-above : (hs : List NumberedPass) (n : ℕ) → IsCounted n hs → (k : ℕ) (h : NumberedPass) → slice_get hs k ≡ Some h → n ≤ h.number
IsCounted-above [] n c k h e = cc
IsCounted-above (x ∷ hs) n c zero h e = let same : x ≡ h = cc in omega (arith, c.0, ap (λ (y : NumberedPass). y.number) same)
IsCounted-above (x ∷ hs) n c (suc k) h e = omega (arith, IsCounted-above hs (suc n) c.1 k h e)

-- numbered passes in order, from the number n on, are all there are
counted-all : (ps : List Deeds) (hs : List NumberedPass) (n : ℕ) → length ps ≡ length hs → IsCounted n hs
    → ((k : ℕ) (h : NumberedPass) → slice_get hs k ≡ Some h → slice_get ps (h.number - n) ≡ Some h.deeds) → ps ≡ map (λ (h : NumberedPass). h.deeds) hs
counted-all [] [] n len in_order each = refl
counted-all (p ∷ ps) [] n len in_order each = absurd (omega arith)
counted-all [] (h ∷ hs) n len in_order each = absurd (omega arith)
counted-all (p ∷ ps) (h ∷ hs) n len in_order each =
    let none : h.number - n ≡ 0 = omega (arith, in_order.0) in
    let here : slice_get (p ∷ ps) 0 ≡ Some h.deeds = sym (ap (slice_get (p ∷ ps)) none) ∙ each 0 h refl in
    let is : p ≡ h.deeds = cc in
    let rest : ps ≡ map (λ (h : NumberedPass). h.deeds) hs = counted-all ps hs (suc n) (omega arith) in_order.1 (λ k g e.
    let above = IsCounted-above hs (suc n) in_order.1 k g e in
    let number : g.number - n ≡ suc (g.number - suc n) = omega arith in
    sym (ap (slice_get (p ∷ ps)) number) ∙ each (suc k) g e) in
    (λ i. is i ∷ rest i)

-- ---- shares of one book

module _ (b : Book) (shares : List (List NumberedPass)) (dealt : IsDealt b shares) where
  module _ (i w : ℕ) (p : Deeds) (at : slice_get shares i ≡ Some (numbered_pass w p ∷ [])) where
    -- a pass that stands alone is the book's
    pub IsDealt-alone : slice_get b.passes w ≡ Some p
    IsDealt-alone = dealt.deeds i (numbered_pass w p ∷ []) at zero (numbered_pass w p) refl

    -- no other share has it
    held-once : (j : ℕ) (share : List NumberedPass) → j ≢ i → slice_get shares j ≡ Some share → (k : ℕ) (h : NumberedPass)
        → slice_get share k ≡ Some h → h.number ≢ w
    held-once j share far e k h there same =
        omega (
          arith,
          subst (λ x. 0 < times_held x share) same (times_held-some share k h there),
          times_held-alone w p,
          sum_by-two (times_held w) shares i j (numbered_pass w p ∷ []) share far at e,
          dealt.numbers w,
          once_below-le_one w (length b.passes),
        )

    -- a step of it changes its share alone
    pub IsDealt-step : (q : Deeds) (c : Book) → c.passes ≡ set b.passes w q → IsDealt c (set shares i (numbered_pass w q ∷ []))
    IsDealt-step q c is = record {
      numbers = λ x. omega (
        arith,
        sum_by-changed (times_held x) shares i (numbered_pass w p ∷ []) (numbered_pass w q ∷ []) at,
        dealt.numbers x,
        ap (once_below x) (ap length is ∙ length-set b.passes w q),
      );
      deeds = λ j share e k h there. ap (λ l. slice_get l h.number) is ∙ now j share e k h there;
    }
      where
        now : (j : ℕ) (share : List NumberedPass) → slice_get (set shares i (numbered_pass w q ∷ [])) j ≡ Some share → (k : ℕ) (h : NumberedPass)
            → slice_get share k ≡ Some h → slice_get (set b.passes w q) h.number ≡ Some h.deeds
        now j share e k h there = elim (slice_get-set_cases shares i j (numbered_pass w q ∷ []) share e) [
          | inl t ↦ here k (ap (λ l. slice_get l k) t.1 ∙ there)
          | inr t ↦ slice_get-set_other b.passes w h.number q (held-once j share t.0 t.1 k h there) ∙ dealt.deeds j share t.1 k h there
        ]
          where
            here : (n : ℕ) → slice_get (numbered_pass w q ∷ []) n ≡ Some h → slice_get (set b.passes w q) h.number ≡ Some h.deeds
            here zero e = let same : numbered_pass w q ≡ h = cc in
                subst (λ (x : NumberedPass). slice_get (set b.passes w q) x.number ≡ Some x.deeds) same (slice_get-set_same b.passes w p q IsDealt-alone)
            here (suc n) e = cc

  -- the first pass of a share becomes a share of its own
  pub IsDealt-cut : (i : ℕ) (share : List NumberedPass) → slice_get shares i ≡ Some share → IsDealt b (set shares i (others share) ++ first share ∷ [])
  IsDealt-cut i share at = record {
    numbers = λ x. omega (
      arith,
      sum_by_push (times_held x) (set shares i (others share)) (first share),
      sum_by-changed (times_held x) shares i share (others share) at,
      times_held-cut x share,
      dealt.numbers x,
    );
    deeds = λ j got e k h there. elim (slice_get-push_cases (set shares i (others share)) j (first share) got e) [
      | inl was ↦ elim (slice_get-set_cases shares i j (others share) got was) [
        | inl is ↦ dealt.deeds i share at (suc k) h (slice_get-others share k h (ap (λ l. slice_get l k) is.1 ∙ there))
        | inr old ↦ dealt.deeds j got old.1 k h there
      ]
      | inr is ↦ dealt.deeds i share at zero h (slice_get-first share k h (ap (λ l. slice_get l k) is.1 ∙ there))
    ];
  }

  -- a share takes the passes of another, which is left with none
  pub IsDealt-join : (i j : ℕ) (one other : List NumberedPass) → j ≢ i → slice_get shares i ≡ Some one → slice_get shares j ≡ Some other
      → IsDealt b (set (set shares i (one ++ other)) j [])
  IsDealt-join i j one other far at there = record {
    numbers = λ x. omega (
      arith,
      sum_by-changed (times_held x) shares i one (one ++ other) at,
      sum_by-changed (times_held x) (set shares i (one ++ other)) j other [] (slice_get-set_other shares i j (one ++ other) far ∙ there),
      sum_by-append (λ (y : NumberedPass). cond {A = ℕ} (eqb y.number x) 1 0) one other,
      dealt.numbers x,
    );
    deeds = λ m got e k h has. elim (slice_get-set_cases (set shares i (one ++ other)) j m [] got e) [
      | inl is ↦ absurd (let no : slice_get {X = NumberedPass} [] k ≡ Some h = ap (λ l. slice_get l k) is.1 ∙ has in cc)
      | inr old ↦ elim (slice_get-set_cases shares i m (one ++ other) got old.1) [
        | inl is ↦ elim (slice_get-append_cases one other k h (ap (λ l. slice_get l k) is.1 ∙ has)) [
          | inl l ↦ dealt.deeds i one at k h l
          | inr r ↦ dealt.deeds j other there r.0 h r.1
        ]
        | inr same ↦ dealt.deeds m got same.1 k h has
      ]
    ];
  }

  -- a share of all passes in the order of their numbers is what the book has
  pub IsDealt-whole : (i : ℕ) (share : List NumberedPass) → slice_get shares i ≡ Some share → length share ≡ length b.passes → IsCounted 0 share
      → b.passes ≡ map (λ (h : NumberedPass). h.deeds) share
  IsDealt-whole i share at len in_order =
      counted-all b.passes share 0 (sym len) in_order (λ k h e. ap (slice_get b.passes) (let n : h.number - 0 ≡ h.number = omega arith in n)
      ∙ dealt.deeds i share at k h e)

-- ---- the start

-- one share of all passes
pub IsDealt-start : (jobs workers : ℕ) → IsDealt (start jobs workers) (all_fresh 0 workers ∷ [])
IsDealt-start jobs workers = record {
  numbers = λ w.
      let n : once_below w (0 + workers) ≡ once_below w (length (replicate workers fresh)) =
      ap (once_below w) (let e : 0 + workers ≡ length (replicate workers fresh) = omega (arith, length-replicate workers fresh) in e) in
      omega (arith, times_held-all_fresh w 0 workers, none_below w, n);
  deeds = each;
}
  where
    none_below : (w : ℕ) → once_below w 0 ≡ 0
    none_below w = cond-false {A = ℕ} (ltb w 0) 1 0 (le-ltb w 0 (omega arith))

    each : (i : ℕ) (share : List NumberedPass) → slice_get (all_fresh 0 workers ∷ []) i ≡ Some share → (k : ℕ) (h : NumberedPass)
        → slice_get share k ≡ Some h → slice_get (replicate workers fresh) h.number ≡ Some h.deeds
    each zero share e k h there =
        let is : all_fresh 0 workers ≡ share = cc in
        let t = slice_get-all_fresh 0 workers k h (ap (λ l. slice_get l k) is ∙ there) in
        slice_get-replicate workers h.number (omega (arith, t.1, t.2)) ∙ ap Some (sym t.0)
    each (suc i) share e k h there = cc
