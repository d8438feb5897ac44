-- Whether a number stands in a list.
use Rattle.std.proofs.Common.{◌≡◌, ℕ, zero, suc, ◌+◌, ◌<◌, ◌≤◌, Bool, true, false, cond, eqb, ◌⊎◌, List, [], ◌∷◌, length, Some, inl, inr, refl, sym}
use Rattle.std.proofs.Common.{◌∙◌, ap, subst, arith, filter}
use Rattle.std.specs.Prelude.{slice_get, ◌||◌}
use Rattle.std.specs.List.{AllByRecursion, range_with_len}
use Rattle.std.proofs.lemmas.Option.{same_Some}
use Rattle.std.proofs.lemmas.Bool.{cases_eq, cases_Bool, both_ways, or_from, or_left, or_right, or_cases, eqb-true, eq-eqb, ne_eqb, true≢false}
use Rattle.std.proofs.lemmas.Bool.{cond-true, cond-false}
use Rattle.puz_board.specs.Costs.{has}

-- a number in a list is its first number, or in the rest of it
pub has_cases : (x d : ℕ) (cs : List ℕ) → has (d ∷ cs) x ≡ true → (d ≡ x) ⊎ (has cs x ≡ true)
has_cases x d cs h = elim (or_cases (eqb d x) (has cs x) h) [ inl e ↦ inl (eqb-true d x e) | inr k ↦ inr k ]

-- a list has the number with which it begins
pub has-here : (x d : ℕ) (cs : List ℕ) → d ≡ x → has (d ∷ cs) x ≡ true
has-here x d cs e = or_left (eqb d x) (has cs x) (eq-eqb d x e)

-- what is in the rest of a list is in the list
pub has-later : (x d : ℕ) (cs : List ℕ) → has cs x ≡ true → has (d ∷ cs) x ≡ true
has-later x d cs h = or_right (eqb d x) (has cs x) h

-- the number at some place of a list is in the list
pub has-get : (xs : List ℕ) (i x : ℕ) → slice_get xs i ≡ Some x → has xs x ≡ true
has-get [] i x e = cc
has-get (y ∷ xs) zero x e = has-here x y xs (same_Some y x e)
has-get (y ∷ xs) (suc i) x e = has-later x y xs (has-get xs i x e)

-- a list that has a number isn't empty
pub length-has : (x : ℕ) (xs : List ℕ) → has xs x ≡ true → 0 < length xs
length-has x [] h = absurd (true≢false (sym h))
length-has x (y ∷ xs) h = omega arith

-- a number that passes a test stands in the filtered list exactly where it stood in the list
pub has-filter : (p : ℕ → Bool) (x : ℕ) (cs : List ℕ) → p x ≡ true → has (filter p cs) x ≡ has cs x
has-filter p x [] h = refl
has-filter p x (d ∷ cs) h = go (cases_Bool (p d)) (cases_eq d x) (has-filter p x cs h)
  where
    go : (p d ≡ true) ⊎ (p d ≡ false) → (d ≡ x) ⊎ (d ≡ x → ⊥) → has (filter p cs) x ≡ has cs x
        → has (cond (p d) (d ∷ filter p cs) (filter p cs)) x ≡ has (d ∷ cs) x
    go (inl t) e ih = ap (λ l. has l x) (cond-true (p d) (d ∷ filter p cs) (filter p cs) t) ∙ ap (λ b. eqb d x || b) ih
    go (inr f) (inl e) ih = absurd (both_ways (p d) f (ap p e ∙ h))
    go (inr f) (inr ne) ih = ap (λ l. has l x) (cond-false (p d) (d ∷ filter p cs) (filter p cs) f) ∙ ih ∙ ap (λ b. b || has cs x) (sym (ne_eqb d x ne))

-- one that fails it isn't there
pub has-filter_not : (p : ℕ → Bool) (x : ℕ) (cs : List ℕ) → p x ≡ false → has (filter p cs) x ≡ false
has-filter_not p x [] h = refl
has-filter_not p x (d ∷ cs) h = go (cases_Bool (p d)) (has-filter_not p x cs h)
  where
    go : (p d ≡ true) ⊎ (p d ≡ false) → has (filter p cs) x ≡ false → has (cond (p d) (d ∷ filter p cs) (filter p cs)) x ≡ false
    go (inl t) ih = ap (λ l. has l x) (cond-true (p d) (d ∷ filter p cs) (filter p cs) t)
        ∙ or_from (eqb d x) (has (filter p cs) x) (ne_eqb d x (λ e. both_ways (p d) (ap p e ∙ h) t)) ih
    go (inr f) ih = ap (λ l. has l x) (cond-false (p d) (d ∷ filter p cs) (filter p cs) f) ∙ ih

-- the numbers from a on, n of them, have each number from a to below a + n
pub has-range : (a n x : ℕ) → a ≤ x → x < a + n → has (range_with_len a n) x ≡ true
has-range a zero x l k = absurd (omega arith)
has-range a (suc n) x l k = elim (cases_eq a x) [
  | inl e ↦ has-here x a (range_with_len (a + 1) n) e
  | inr ne ↦ has-later x a (range_with_len (a + 1) n) (has-range (a + 1) n x (omega arith) (omega arith))
]

-- each of the n numbers from a on is a at least and below a + n
pub in_range : (a n x : ℕ) → has (range_with_len a n) x ≡ true → (a ≤ x) × (x < a + n)
in_range a zero x h = absurd (true≢false (sym h))
in_range a (suc n) x h = elim (has_cases x a (range_with_len (a + 1) n) h) [
  | inl e ↦ (omega arith, omega arith)
  | inr k ↦ let w = in_range (a + 1) n x k in let l : a + 1 ≤ x = w.0 in let m : x < a + 1 + n = w.1 in (omega arith, omega arith)
]

-- what holds of each number that a list has holds all along the list
pub all_from_has : (P : ℕ → Type 0) (xs : List ℕ) → ((x : ℕ) → has xs x ≡ true → P x) → AllByRecursion P xs
all_from_has P [] each = tt
all_from_has P (x ∷ xs) each = (each x (has-here x x xs refl), all_from_has P xs (λ y h. each y (has-later y x xs h)))

-- what holds all along a list holds of each number that the list has
pub has_from_all : (P : ℕ → Type 0) (xs : List ℕ) (x : ℕ) → AllByRecursion P xs → has xs x ≡ true → P x
has_from_all P [] x all h = absurd (true≢false (sym h))
has_from_all P (y ∷ xs) x all h = elim (has_cases x y xs h) [ inl e ↦ subst P e all.0 | inr k ↦ has_from_all P xs x all.1 k ]
