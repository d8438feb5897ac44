-- Moves of tiles, and the least of what they lead to.
use Rattle.std.proofs.Common.{◌≡◌, ℕ, ◌<◌, ◌≤◌, ◌⊎◌, true, length, get_or, set, min, inl, inr, refl, sym, ◌∙◌, ap, subst, arith, get_or-set_same}
use Rattle.std.proofs.Common.{get_or-set_other, length-set}
use Rattle.std.proofs.lemmas.Bool.{cases_eq, cases_lt, both_ways, false_from_ne_true}
use Rattle.pat_place.specs.Patterns.{has}
use Rattle.pat_place.specs.Placements.{ShownPlacement, IsFree, IsPlacement}
use Rattle.pat_place.proofs.ListLemmas.{all_at, apart_at, at-has, has-at}
use Rattle.tab_rule.specs.LocalRule.{IsLeastOf}

-- ---- one tile moved

module _ (p : ShownPlacement) (is : IsPlacement p) (i to : ℕ) (low : i < length p.cells) (free : IsFree p.pattern.side p.cells to) where
  -- the cell that the tile left is free
  pub left_free : IsFree p.pattern.side (set p.cells i to) (get_or p.cells i 0)
  left_free = (all_at p.cells i is.inside low, false_from_ne_true (has (set p.cells i to) (get_or p.cells i 0)) twice)
    where
      twice : has (set p.cells i to) (get_or p.cells i 0) ≡ true → ⊥
      twice h =
          let k = at-has (set p.cells i to) (get_or p.cells i 0) h in
          let k_low : k.0 < length p.cells = let e = length-set p.cells i to in let l : k.0 < length (set p.cells i to) = k.1 in omega arith in
          elim (cases_eq k.0 i) [
            | inl e ↦ both_ways (has p.cells to) free.1 (has-at p.cells to i low
                (sym k.2 ∙ ap (λ j. get_or (set p.cells i to) j 0) e ∙ get_or-set_same p.cells i to 0 low))
            | inr ne ↦ ne (apart_at p.cells is.apart k.0 i k_low low (sym (get_or-set_other p.cells i k.0 to 0 ne) ∙ k.2))
          ]

-- ---- the least of several

-- where nothing has a property, the least number that has it is taken to be 255
pub IsLeastOf-none : (Has : ℕ → Type 0) → ((e : ℕ) → ¬ Has e) → IsLeastOf Has 255
IsLeastOf-none Has none = record { most = omega arith; least = λ e h. absurd (none e h); reached = inl refl }

-- where one number of at most 255 alone has a property, it is the least
pub IsLeastOf-one : (Has : ℕ → Type 0) (m : ℕ) → m ≤ 255 → Has m → ((e : ℕ) → Has e → e ≡ m) → IsLeastOf Has m
IsLeastOf-one Has m small h only = record { most = small; least = λ e other. let same = only e other in omega arith; reached = inr h }

-- the smaller one of two is the least of both
pub IsLeastOf-min : (Left Right Both : ℕ → Type 0) → ((e : ℕ) → Left e → Both e) → ((e : ℕ) → Right e → Both e) → ((e : ℕ) → Both e → Left e ⊎ Right e)
    → (a b : ℕ) → IsLeastOf Left a → IsLeastOf Right b → IsLeastOf Both (min a b)
IsLeastOf-min Left Right Both left right either a b is also = elim (cases_lt b a) [
  | inl l ↦ subst (IsLeastOf Both) (let e : b ≡ min a b = omega arith in e) (record {
    most = also.most;
    least = λ e h. elim (either e h) [ inl x ↦ (let k : a ≤ e = is.least e x in omega arith) | inr y ↦ also.least e y ];
    reached = elim also.reached [ inl full ↦ inl full | inr y ↦ inr (right b y) ];
  })
  | inr l ↦ subst (IsLeastOf Both) (let e : a ≡ min a b = omega arith in e) (record {
    most = is.most;
    least = λ e h. elim (either e h) [ inl x ↦ is.least e x | inr y ↦ (let k : b ≤ e = also.least e y in omega arith) ];
    reached = elim is.reached [ inl full ↦ inl full | inr x ↦ inr (left a x) ];
  })
]

-- of two properties that hold of the same numbers, the least number is the same
pub IsLeastOf-same : (Has Other : ℕ → Type 0) → ((e : ℕ) → Has e → Other e) → ((e : ℕ) → Other e → Has e) → (m : ℕ) → IsLeastOf Has m → IsLeastOf Other m
IsLeastOf-same Has Other to back m is = record {
  most = is.most;
  least = λ e h. is.least e (back e h);
  reached = elim is.reached [ inl full ↦ inl full | inr h ↦ inr (to m h) ];
}
