-- Some element of a list has a property.
use Rattle.std.proofs.Common.{◌≡◌, ℕ, zero, suc, ◌<◌, ◌⊎◌, List, [], ◌∷◌, ◌++◌, length, get_or, inl, inr, refl, sym, subst, arith}
use Rattle.std.specs.Prelude.{Any}

-- a list whose first element has the property has an element with it
pub Any-here : {X : Type 0} (P : X → Type 0) (x : X) (xs : List X) → P x → Any P (x ∷ xs)
Any-here P x xs h = (0, x, omega arith, refl, h)

-- a list whose rest has an element with the property has one too
pub Any-later : {X : Type 0} (P : X → Type 0) (x : X) (xs : List X) → Any P xs → Any P (x ∷ xs)
Any-later P x xs h = (suc h.0, h.1, let low : h.0 < length xs = h.2 in omega arith, h.3, h.4)

-- no element of the empty list has the property
pub Any-none : {X : Type 0} (P : X → Type 0) → ¬ Any P []
Any-none P h = let low : h.0 < 0 = h.2 in omega arith

-- where an element of a list has the property, it is the first one or one of the rest
pub Any-cases : {X : Type 0} (P : X → Type 0) (x : X) (xs : List X) → Any P (x ∷ xs) → P x ⊎ Any P xs
Any-cases {X} P x xs h = go h.0 h.2 h.3
  where
    go : (k : ℕ) → k < length (x ∷ xs) → get_or (x ∷ xs) k h.1 ≡ h.1 → P x ⊎ Any P xs
    go zero low is = inl (subst P (sym is) h.4)
    go (suc k) low is = inr (k, h.1, omega arith, is, h.4)

-- where an element of the first of two lists has the property, one of the two joined has it
pub Any-left : {X : Type 0} (P : X → Type 0) (xs ys : List X) → Any P xs → Any P (xs ++ ys)
Any-left P [] ys h = absurd (Any-none P h)
Any-left P (x ∷ xs) ys h = elim (Any-cases P x xs h) [ inl here ↦ Any-here P x (xs ++ ys) here | inr later ↦ Any-later P x (xs ++ ys) (Any-left P xs ys later) ]

-- where an element of the second of two lists has the property, one of the two joined has it
pub Any-right : {X : Type 0} (P : X → Type 0) (xs ys : List X) → Any P ys → Any P (xs ++ ys)
Any-right P [] ys h = h
Any-right P (x ∷ xs) ys h = Any-later P x (xs ++ ys) (Any-right P xs ys h)

-- where an element of two joined lists has the property, one of the first or of the second has it
pub Any-either : {X : Type 0} (P : X → Type 0) (xs ys : List X) → Any P (xs ++ ys) → Any P xs ⊎ Any P ys
Any-either P [] ys h = inr h
Any-either P (x ∷ xs) ys h = elim (Any-cases P x (xs ++ ys) h) [
  | inl here ↦ inl (Any-here P x xs here)
  | inr later ↦ elim (Any-either P xs ys later) [ inl one ↦ inl (Any-later P x xs one) | inr other ↦ inr other ]
]

-- where an element of a list has a property, one has each weaker property
pub Any-weaker : {X : Type 0} (P Q : X → Type 0) → ((x : X) → P x → Q x) → (xs : List X) → Any P xs → Any Q xs
Any-weaker P Q f xs h = (h.0, h.1, h.2, h.3, f h.1 h.4)
