-- Letters and moves turned by half a turn.
use Rattle.std.proofs.Common.{◌+◌, ◌<◌, ◌++◌, zero, suc, append_assoc, arith, drop, set, take}
use Rattle.std.proofs.Math.Seq.{take-suc}
use Rattle.std.proofs.Common.{◌≡◌, ◌≢◌, ℕ, true, eqb, List, [], ◌∷◌, get_or, length, map, Option, Some, None, inl, inr, refl, sym, ◌∙◌, ap, ap₂, subst, ne_eqb, ◌||◌}
use Rattle.std.proofs.lemmas.Bool.{cases_eq, cond-false}
use Rattle.std.proofs.lemmas.List.{length-map, map-append}
use Rattle.std.proofs.lemmas.List.Elements.{All-map}
use Rattle.std.specs.Prelude.{option_map}
use Rattle.std.specs.List.{AllPass, cons_option}
use Rattle.puz_board.specs.BoardTexts.{is_separator}
use Rattle.puz_board.specs.Cells.{move_of_letter, reverse_of}
use Rattle.puz_board.specs.MovesTexts.{is_letter, moves_of}
use Rattle.puz_board.specs.declared.moves.Move.{Move}
use Rattle.puz_board.specs.declared.moves.Move.TheVariants.{Up, Down, Left, Right}
use Rattle.puz_goal.specs.Turning.{moves_for, turned_letter}
use Rattle.puz_goal.specs.declared.goals.Goal.{Goal}
use Rattle.puz_goal.specs.declared.goals.Goal.TheVariants.{First, Last}

-- ---- a letter

module _ (b : ℕ) (up : b ≢ 85) (down : b ≢ 68) (left : b ≢ 76) (right : b ≢ 82) where
  other_stays : turned_letter b ≡ b
  other_stays =
      cond-false (eqb b 85) 68 _ (ne_eqb b 85 up) ∙ cond-false (eqb b 68) 85 _ (ne_eqb b 68 down) ∙
      cond-false (eqb b 76) 82 _ (ne_eqb b 76 left) ∙ cond-false (eqb b 82) 76 b (ne_eqb b 82 right)

  other_none : move_of_letter b ≡ None
  other_none =
      cond-false (eqb b 85) (Some Up) _ (ne_eqb b 85 up) ∙ cond-false (eqb b 68) (Some Down) _ (ne_eqb b 68 down) ∙
      cond-false (eqb b 76) (Some Left) _ (ne_eqb b 76 left) ∙ cond-false (eqb b 82) (Some Right) None (ne_eqb b 82 right)

-- what holds of each letter and its turned one, and of each other byte and itself, holds
by_letter : (P : ℕ → ℕ → Type 0) → P 85 68 → P 68 85 → P 76 82 → P 82 76
    → ((b : ℕ) → b ≢ 85 → b ≢ 68 → b ≢ 76 → b ≢ 82 → P b b) → (b : ℕ) → P b (turned_letter b)
by_letter P up down left right other b = elim (cases_eq b 85) [
  | inl e ↦ subst (λ x. P x (turned_letter x)) (sym e) up
  | inr u ↦ elim (cases_eq b 68) [
    | inl e ↦ subst (λ x. P x (turned_letter x)) (sym e) down
    | inr d ↦ elim (cases_eq b 76) [
      | inl e ↦ subst (λ x. P x (turned_letter x)) (sym e) left
      | inr l ↦ elim (cases_eq b 82) [
        | inl e ↦ subst (λ x. P x (turned_letter x)) (sym e) right
        | inr r ↦ subst (P b) (sym (other_stays b u d l r)) (other b u d l r)
      ]
    ]
  ]
]

-- a letter turned twice is itself
pub letter_twice : (b : ℕ) → turned_letter (turned_letter b) ≡ b
letter_twice = by_letter (λ b c. turned_letter c ≡ b) refl refl refl refl other_stays

-- it names the move in the opposite direction
pub move_of-turned : (b : ℕ) → move_of_letter (turned_letter b) ≡ option_map reverse_of (move_of_letter b)
move_of-turned = by_letter (λ b c. move_of_letter c ≡ option_map reverse_of (move_of_letter b)) refl refl refl refl
    (λ b u d l r. other_none b u d l r ∙ sym (ap (option_map reverse_of) (other_none b u d l r)))

-- it is one of a moves text where the letter is
pub clean-turned : (b : ℕ) → (is_letter (turned_letter b) || is_separator (turned_letter b)) ≡ (is_letter b || is_separator b)
clean-turned = by_letter (λ b c. (is_letter c || is_separator c) ≡ (is_letter b || is_separator b)) refl refl refl refl (λ b u d l r. refl)

-- ---- a text

-- a text turned twice is itself
pub text_twice : (text : List ℕ) → map turned_letter (map turned_letter text) ≡ text
text_twice [] = refl
text_twice (b ∷ text) = ap₂ (λ c rest. c ∷ rest) (letter_twice b) (text_twice text)

-- its moves are those in the opposite directions
pub moves_of-turned : (text : List ℕ) → moves_of (map turned_letter text) ≡ map reverse_of (moves_of text)
moves_of-turned [] = refl
moves_of-turned (b ∷ text) =
    ap (λ o. cons_option o (moves_of (map turned_letter text))) (move_of-turned b) ∙ step (move_of_letter b) (moves_of-turned text)
  where
    step : (o : Option Move) → moves_of (map turned_letter text) ≡ map reverse_of (moves_of text)
        → cons_option (option_map reverse_of o) (moves_of (map turned_letter text)) ≡ map reverse_of (cons_option o (moves_of text))
    step None rest = rest
    step (Some m) rest = ap (λ ms. reverse_of m ∷ ms) rest

-- a byte of a moves text
abbrev pub IsClean : ℕ → Type 0
IsClean b = (is_letter b || is_separator b) ≡ true

-- a text has letters and separators alone where it is turned
pub all-turned : (text : List ℕ) → AllPass (λ b. is_letter b || is_separator b) text → AllPass (λ b. is_letter b || is_separator b) (map turned_letter text)
all-turned text all = All-map IsClean turned_letter text (λ k d low. clean-turned (get_or text k d) ∙ all k d low)

-- ---- a text that is turned in place

-- the first letters of a text are turned, and one more is set
one_set : (old : List ℕ) (i : ℕ) → i < length old
    → (get_or (map turned_letter (take i old) ++ drop i old) i 0 ≡ get_or old i 0)
    × ((x : ℕ) → set (map turned_letter (take i old) ++ drop i old) i x ≡ map turned_letter (take i old) ++ x ∷ drop (suc i) old)
one_set [] i l = absurd (omega arith)
one_set (b ∷ old) zero l = (refl, λ x. refl)
one_set (b ∷ old) (suc i) l = let rest = one_set old i (omega arith) in (rest.0, λ x. ap (λ ys. turned_letter b ∷ ys) (rest.1 x))

-- so one letter more is turned
pub one_turned : (old text : List ℕ) (i x : ℕ) → i < length old → text ≡ map turned_letter (take i old) ++ drop i old
    → x ≡ turned_letter (get_or text i 0) → set text i x ≡ map turned_letter (take (i + 1) old) ++ drop (i + 1) old
one_turned old text i x l is letter =
    let one = one_set old i l in
    let next : i + 1 ≡ suc i = omega arith in
    let here : x ≡ turned_letter (get_or old i 0) = letter ∙ ap (λ t. turned_letter (get_or t i 0)) is ∙ ap turned_letter one.0 in
    let front : map turned_letter (take (suc i) old) ≡ map turned_letter (take i old) ++ turned_letter (get_or old i 0) ∷ [] =
    ap (map turned_letter) (take-suc old i 0 l) ∙ map-append turned_letter (take i old) (get_or old i 0 ∷ []) in
    ap (λ t. set t i x) is ∙ one.1 x ∙ ap (λ y. map turned_letter (take i old) ++ y ∷ drop (suc i) old) here ∙
    sym (ap (λ k. map turned_letter (take k old) ++ drop k old) next ∙ ap (λ ys. ys ++ drop (suc i) old) front ∙
    append_assoc (map turned_letter (take i old)) (turned_letter (get_or old i 0) ∷ []) (drop (suc i) old))

-- ---- for a goal

-- a text for a goal, turned again, is itself
pub moves_for-twice : (goal : Goal) (text : List ℕ) → moves_for goal (moves_for goal text) ≡ text
moves_for-twice First text = refl
moves_for-twice Last text = text_twice text

-- it has as many bytes
pub length-moves_for : (goal : Goal) (text : List ℕ) → length (moves_for goal text) ≡ length text
length-moves_for First text = refl
length-moves_for Last text = length-map text turned_letter
