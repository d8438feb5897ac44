-- Lists where one element changes, one comes to the end, or two are put together.
use Rattle.std.proofs.Common.{◌≡◌, ◌≢◌, ◌⊎◌, ℕ, zero, suc, ◌+◌, ◌≤◌, List, [], ◌∷◌, ◌++◌, length, set, Some, inl, inr, refl, sym, ◌∙◌, ap, subst}
use Rattle.std.proofs.Common.{arith, slice_get}
use Rattle.std.specs.List.{sum_by}
use Rattle.std.proofs.lemmas.Option.{slice_get_within, get_or_from_slice_get}
use Rattle.std.proofs.lemmas.List.Sums.{sum_by-cons, sum_by-set, get_or-le-sum_by}

module _ {A : Type 0} where
  -- a sum, where the element at i goes from x to y
  pub sum_by-changed : (f : A → ℕ) (xs : List A) (i : ℕ) (x y : A) → slice_get xs i ≡ Some x → sum_by f (set xs i y) + f x ≡ sum_by f xs + f y
  sum_by-changed f xs i x y at =
      ap (λ z. sum_by f (set xs i y) + f z) (sym (get_or_from_slice_get xs i x x at)) ∙ sum_by-set f xs i y x (slice_get_within xs i x at)

  -- no element counts for more than all of them
  pub le-sum_by : (f : A → ℕ) (xs : List A) (i : ℕ) (x : A) → slice_get xs i ≡ Some x → f x ≤ sum_by f xs
  le-sum_by f xs i x at =
      subst (λ z. f z ≤ sum_by f xs) (get_or_from_slice_get xs i x x at) (get_or-le-sum_by f xs i x (slice_get_within xs i x at))

  -- nor do two
  pub sum_by-two : (f : A → ℕ) (xs : List A) (i j : ℕ) (x y : A) → j ≢ i → slice_get xs i ≡ Some x → slice_get xs j ≡ Some y → f x + f y ≤ sum_by f xs
  sum_by-two f [] i j x y far e e' = cc
  sum_by-two f (z ∷ xs) zero zero x y far e e' = absurd (far refl)
  sum_by-two f (z ∷ xs) zero (suc j) x y far e e' = let same : z ≡ x = cc in omega (arith, ap f same, le-sum_by f xs j y e', sum_by-cons f z xs)
  sum_by-two f (z ∷ xs) (suc i) zero x y far e e' = let same : z ≡ y = cc in omega (arith, ap f same, le-sum_by f xs i x e, sum_by-cons f z xs)
  sum_by-two f (z ∷ xs) (suc i) (suc j) x y far e e' = omega (arith, sum_by-two f xs i j x y (λ s. far (ap suc s)) e e', sum_by-cons f z xs)

  -- where an element of a list is replaced, the new one is found in its place
  pub slice_get-set_same : (xs : List A) (i : ℕ) (x y : A) → slice_get xs i ≡ Some x → slice_get (set xs i y) i ≡ Some y
  slice_get-set_same [] i x y e = cc
  slice_get-set_same (z ∷ xs) zero x y e = refl
  slice_get-set_same (z ∷ xs) (suc i) x y e = slice_get-set_same xs i x y e

  -- where an element of a list is replaced, what is found at each other place stays
  pub slice_get-set_other : (xs : List A) (i j : ℕ) (y : A) → j ≢ i → slice_get (set xs i y) j ≡ slice_get xs j
  slice_get-set_other [] i j y ne = refl
  slice_get-set_other (z ∷ xs) zero zero y ne = absurd (ne refl)
  slice_get-set_other (z ∷ xs) zero (suc j) y ne = refl
  slice_get-set_other (z ∷ xs) (suc i) zero y ne = refl
  slice_get-set_other (z ∷ xs) (suc i) (suc j) y ne = slice_get-set_other xs i j y (λ e. ne (ap suc e))

  -- an element after a change is the new one, or was there
  pub slice_get-set_cases : (xs : List A) (i j : ℕ) (y z : A) → slice_get (set xs i y) j ≡ Some z → ((j ≡ i) × (y ≡ z)) ⊎ ((j ≢ i) × (slice_get xs j ≡ Some z))
  slice_get-set_cases [] i j y z e = cc
  slice_get-set_cases (x ∷ xs) zero zero y z e = inl (refl, let same : y ≡ z = cc in same)
  slice_get-set_cases (x ∷ xs) zero (suc j) y z e = inr ((λ h. omega arith), e)
  slice_get-set_cases (x ∷ xs) (suc i) zero y z e = inr ((λ h. omega arith), e)
  slice_get-set_cases (x ∷ xs) (suc i) (suc j) y z e = elim (slice_get-set_cases xs i j y z e) [
    | inl h ↦ inl (ap suc h.0, h.1)
    | inr h ↦ inr ((λ s. h.0 (omega (arith, s))), h.1)
  ]

  -- an element of a list with one more at its end
  pub slice_get-push_cases : (xs : List A) (j : ℕ) (y z : A) → slice_get (xs ++ y ∷ []) j ≡ Some z → (slice_get xs j ≡ Some z) ⊎ ((j ≡ length xs) × (y ≡ z))
  slice_get-push_cases [] zero y z e = inr (refl, let same : y ≡ z = cc in same)
  slice_get-push_cases [] (suc j) y z e = cc
  slice_get-push_cases (x ∷ xs) zero y z e = inl e
  slice_get-push_cases (x ∷ xs) (suc j) y z e = elim (slice_get-push_cases xs j y z e) [ inl h ↦ inl h | inr h ↦ inr (omega (arith, h.0), h.1) ]

  -- what is found in two lists put together is in the first at that place, or in the second at some place
  pub slice_get-append_cases : (xs ys : List A) (j : ℕ) (z : A) → slice_get (xs ++ ys) j ≡ Some z → (slice_get xs j ≡ Some z)
      ⊎ ((k : ℕ) × (slice_get ys k ≡ Some z))
  slice_get-append_cases [] ys j z e = inr (j, e)
  slice_get-append_cases (x ∷ xs) ys zero z e = inl e
  slice_get-append_cases (x ∷ xs) ys (suc j) z e = slice_get-append_cases xs ys j z e
