-- Moves have a string in them, or they don't.
use Rattle.std.proofs.Common.{◌≡◌, ℕ, ◌⊎◌, List, [], ◌∷◌, ◌++◌, inl, inr, refl, sym, ap, subst, arith}
use Rattle.std.specs.List.{AllByRecursion}
use Rattle.std.proofs.lemmas.Bool.{cases_eq}
use Rattle.puz_board.specs.declared.moves.Move.{Move}
use Rattle.puz_board.specs.declared.moves.Move.TheVariants.{Up, Down, Left, Right}
use Rattle.move_strings.specs.Strings.{HasForbidden, HasString, IsForbidden, rank_of}

-- ---- letters

-- two moves of one rank are the same move
pub same_rank : (l m : Move) → rank_of l ≡ rank_of m → l ≡ m
same_rank Up Up e = refl
same_rank Down Down e = refl
same_rank Left Left e = refl
same_rank Right Right e = refl
same_rank l m e = absurd (omega arith)

abbrev nat_same : (a b : ℕ) → Type 0
nat_same a b = (a ≡ b) ⊎ (a ≡ b → ⊥)

nat_or : (a b : ℕ) → nat_same a b
nat_or a b = cases_eq a b

-- two moves are the same one or different ones
pub same_or : (l m : Move) → (l ≡ m) ⊎ (l ≡ m → ⊥)
same_or l m = elim (nat_or (rank_of l) (rank_of m)) [ inl e ↦ inl (same_rank l m e) | inr ne ↦ inr (λ e. ne (ap rank_of e)) ]

-- the first of some moves, and up where there are none
abbrev pub first_of_moves : List Move → Move
first_of_moves [] = Up
first_of_moves (m ∷ ms) = m

-- the moves behind the first one, and none where there is none
abbrev pub rest_of_moves : List Move → List Move
rest_of_moves [] = []
rest_of_moves (m ∷ ms) = ms

abbrev count_one : List Move → ℕ
count_one [] = 0
count_one (m ∷ ms) = 1

-- ---- parts

-- the moves begin with the string
abbrev BeginsWith : List Move → List Move → Type 0
BeginsWith moves string = (rest : List Move) × (moves ≡ string ++ rest)

begins_or : (string moves : List Move) → BeginsWith moves string ⊎ (BeginsWith moves string → ⊥)
begins_or [] moves = inl (moves, refl)
begins_or (l ∷ ls) [] = inr (λ h. let no : 0 ≡ 1 = ap count_one h.1 in omega arith)
begins_or (l ∷ ls) (m ∷ ms) = elim (same_or l m) [
  | inl e ↦ elim (begins_or ls ms) [
    | inl h ↦ inl (h.0, subst (λ k. m ∷ ms ≡ k ∷ (ls ++ h.0)) (sym e) (ap (λ t. m ∷ t) h.1))
    | inr miss ↦ inr (λ h. miss (h.0, ap rest_of_moves h.1))
  ]
  | inr ne ↦ inr (λ h. ne (sym (ap first_of_moves h.1)))
]

at_front : (moves string front rest : List Move) → (BeginsWith moves string → ⊥) → moves ≡ front ++ (string ++ rest)
    → (later : (ls : List Move) → rest_of_moves moves ≡ ls ++ (string ++ rest) → count_one moves ≡ 1 → ⊥) → ⊥
at_front moves string [] rest miss whole later = miss (rest, whole)
at_front moves string (l ∷ ls) rest miss whole later = later ls (ap rest_of_moves whole) (ap count_one whole)

-- moves have a string in them or haven't
pub string_or : (moves string : List Move) → HasString moves string ⊎ (HasString moves string → ⊥)
string_or [] string = elim (begins_or string []) [
  | inl h ↦ inl (record { front = []; rest = h.0; whole = h.1 })
  | inr miss ↦ inr (λ h. at_front [] string h.front h.rest miss h.whole (λ ls e one. omega arith))
]
string_or (m ∷ ms) string = elim (begins_or string (m ∷ ms)) [
  | inl h ↦ inl (record { front = []; rest = h.0; whole = h.1 })
  | inr miss ↦ elim (string_or ms string) [
    | inl h ↦ inl (record { front = m ∷ h.front; rest = h.rest; whole = ap (λ t. m ∷ t) h.whole })
    | inr none ↦ inr (λ h. at_front (m ∷ ms) string h.front h.rest miss h.whole (λ ls e one. none (record { front = ls; rest = h.rest; whole = e })))
  ]
]

-- the moves have one of the forbidden strings in them, or none
pub forbidden_or : (n : ℕ) (strings : List (List Move)) → AllByRecursion (IsForbidden n) strings → (moves : List Move)
    → HasForbidden n moves ⊎ AllByRecursion (λ string. ¬ HasString moves string) strings
forbidden_or n [] each moves = inr tt
forbidden_or n (string ∷ strings) each moves = elim (string_or moves string) [
  | inl has ↦ inl (record { string = string; forbidden = each.0; has = has })
  | inr miss ↦ elim (forbidden_or n strings each.1 moves) [ inl has ↦ inl has | inr none ↦ inr (miss, none) ]
]
