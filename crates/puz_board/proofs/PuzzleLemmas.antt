-- What is split off at the first `;` is what the text is made of, and back.
use Rattle.std.proofs.Common.{◌≡◌, ℕ, suc, ◌+◌, ◌<◌, Bool, true, false, List, [], ◌∷◌, ◌++◌, length, take, drop, get_or, Option, Some, None, eqb, not}
use Rattle.std.proofs.Common.{refl, sym, ◌∙◌, ap, ap₂, subst, arith, eq-eqb, get_or-take, length-append, length-take}
use Rattle.std.proofs.Math.ListN.{get_or-append}
use Rattle.std.proofs.Math.Seq.{drop-append-add, drop-cons, get_or-append_seam, take-append_seam}
use Rattle.std.proofs.lemmas.Bool.{eqb-true}
use Rattle.std.proofs.lemmas.Grind.{get_or_default_zero}
use Rattle.std.proofs.lemmas.List.{take-append-drop}
use Rattle.std.specs.Prelude.{IfNone, IfSome, option_map, position}
use Rattle.std.specs.List.{AllPass}
use Rattle.puz_board.specs.PuzzleTexts.{HasNoSemicolon, IsPuzzle, puzzle_parts}
use Rattle.puz_board.proofs.FirstLemmas.{fails_each, first-position, position-some}

not_true : (b : Bool) → not b ≡ true → b ≡ false
not_true true e = cc
not_true false e = refl

position-puzzle : (board moves : List ℕ) → AllPass (λ b. not (eqb b 59)) board → position (λ b. eqb b 59) (board ++ 59 ∷ moves) ≡ Some (length board)
position-puzzle board moves first =
    let long = length-append board (59 ∷ moves) in
    position-some (λ b. eqb b 59) (board ++ 59 ∷ moves) (length board) (omega arith)
    (λ k l. ap (λ b. eqb b 59) (get_or-append board (59 ∷ moves) 0 k l) ∙ not_true (eqb (get_or board k 0) 59) (first k 0 l))
    (eq-eqb _ _ (get_or-append_seam board 59 moves 0))

-- a text made of a board text, its first semicolon and a moves text is split into these two
pub puzzle_parts-puzzle : (text board moves : List ℕ) → IsPuzzle text board moves → puzzle_parts text ≡ Some (board, moves)
unfolding puzzle_parts
puzzle_parts-puzzle text board moves puzzle =
    ap (λ t. option_map (λ i. (take i t, drop (i + 1) t)) (position (λ b. eqb b 59) t)) puzzle.whole ∙
    ap (option_map (λ i. (take i (board ++ 59 ∷ moves), drop (i + 1) (board ++ 59 ∷ moves)))) (position-puzzle board moves puzzle.first) ∙
    ap₂ (λ front back. Some (front, back)) (take-append_seam board (59 ∷ moves)) (drop-append-add board (59 ∷ moves) 1)

puzzle-at : (text : List ℕ) (i : ℕ) → position (λ b. eqb b 59) text ≡ Some i → IsPuzzle text (take i text) (drop (i + 1) text)
puzzle-at text i e =
    let place = first-position (λ b. eqb b 59) text i e in
    let semicolon : get_or text i 0 ≡ 59 = eqb-true _ _ place.here in
    let next : suc i ≡ i + 1 = omega arith in
    let few = length-take i text in
    record {
      whole =
          sym (take-append-drop i text) ∙
          ap (λ back. take i text ++ back) (drop-cons text i 0 place.within ∙ ap₂ (λ b k. b ∷ drop k text) semicolon next);
      first = λ k d l.
          let below : k < i = omega arith in
          ap (λ b. not (eqb b 59)) (get_or_default_zero (take i text) k d l ∙ get_or-take i text k 0 below) ∙ ap not (place.before k below);
    }

abbrev front_of : Option (List ℕ × List ℕ) → List ℕ
front_of None = []
front_of (Some parts) = parts.0

abbrev back_of : Option (List ℕ × List ℕ) → List ℕ
back_of None = []
back_of (Some parts) = parts.1

-- the parts that are there make up the text
pub puzzle-puzzle_parts : {A : Type 0} (text : List ℕ) (r : Option A) (front back : A → List ℕ)
    → option_map {U = List ℕ × List ℕ} (λ x. (front x, back x)) r ≡ puzzle_parts text
    → IfSome r (λ x. IsPuzzle text (front x) (back x))
unfolding puzzle_parts
puzzle-puzzle_parts text None front back e = tt
puzzle-puzzle_parts text (Some x) front back e = go (position (λ b. eqb b 59) text) refl e
  where
    go : (o : Option ℕ) → position (λ b. eqb b 59) text ≡ o
        → option_map {U = List ℕ × List ℕ} (λ y. (front y, back y)) (Some x) ≡ option_map (λ i. (take i text, drop (i + 1) text)) o
        → IsPuzzle text (front x) (back x)
    go None p f = cc
    go (Some i) p f =
        let here : front x ≡ take i text = ap front_of f in
        let after : back x ≡ drop (i + 1) text = ap back_of f in
        let puzzle = puzzle-at text i p in
        record { whole = puzzle.whole ∙ ap₂ (λ a b. a ++ 59 ∷ b) (sym here) (sym after); first = subst (AllPass (λ b. not (eqb b 59))) (sym here) puzzle.first }

-- the two parts that are there are the text's
pub puzzle-parts : (text board moves : List ℕ) → puzzle_parts text ≡ Some (board, moves) → IsPuzzle text board moves
puzzle-parts text board moves e = puzzle-puzzle_parts {A = List ℕ × List ℕ} text (Some (board, moves)) (λ parts. parts.0) (λ parts. parts.1) (sym e)

-- where there are none, no byte is a `;`
pub no_semicolon-puzzle_parts : {A : Type 0} (text : List ℕ) (r : Option A) (parts : A → List ℕ × List ℕ) → option_map parts r ≡ puzzle_parts text
    → IfNone r (HasNoSemicolon text)
unfolding puzzle_parts
no_semicolon-puzzle_parts text (Some x) parts e = tt
no_semicolon-puzzle_parts text None parts e = go (position (λ b. eqb b 59) text) refl (sym e)
  where
    go : (o : Option ℕ) → position (λ b. eqb b 59) text ≡ o → option_map {U = List ℕ × List ℕ} (λ i. (take i text, drop (i + 1) text)) o ≡ None
        → HasNoSemicolon text
    go (Some i) p f = cc
    go None p f = λ k d l. ap (λ b. not (eqb b 59)) (get_or_default_zero text k d l) ∙ ap not (fails_each (λ b. eqb b 59) text p k l)
