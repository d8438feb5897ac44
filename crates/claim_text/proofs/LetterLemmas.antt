-- The letters of moves texts.
use Rattle.std.proofs.Common.{◌≡◌, ℕ, suc, length, arith, ◌≤◌, Bool, true, false, List, [], ◌∷◌, Option, Some, None, cond, refl, sym, ◌∙◌, ap, subst, ◌||◌}
use Rattle.std.proofs.lemmas.Bool.{cond-false, or_parts}
use Rattle.std.proofs.lemmas.List.Elements.{All-filter}
use Rattle.std.specs.Prelude.{filter, is_some}
use Rattle.std.specs.List.{cons_option, filter_map, list_any}
use Rattle.puz_board.specs.Boards.{blank, side_of}
use Rattle.puz_board.specs.BoardTexts.{is_separator}
use Rattle.puz_board.specs.Cells.{move_of_letter}
use Rattle.puz_board.specs.MovesTexts.{Solves, is_letter, moves_of}
use Rattle.puz_board.specs.Paths.{Leads}
use Rattle.puz_board.specs.declared.moves.Move.{Move}
use Rattle.claim_text.specs.Claims.{letters}
use Rattle.claim_text.specs.Laws.{LettersSolve, SolvesByLetters}

filter_map-filter : {Y : Type 0} (f : ℕ → Option Y) (xs : List ℕ) → filter_map f (filter (λ x. is_some (f x)) xs) ≡ filter_map f xs
filter_map-filter f [] = refl
filter_map-filter {Y} f (x ∷ xs) = go (f x) refl (filter_map-filter f xs)
  where
    go : (o : Option Y) → f x ≡ o → filter_map f (filter (λ x. is_some (f x)) xs) ≡ filter_map f xs
        → filter_map f (cond (is_some o) (x ∷ filter (λ x. is_some (f x)) xs) (filter (λ x. is_some (f x)) xs)) ≡ cons_option o (filter_map f xs)
    go None e rest = rest
    go (Some y) e rest =
        ap (λ o. cons_option o (filter_map f (filter (λ x. is_some (f x)) xs))) e ∙
        ap (λ ys. y ∷ ys) rest

-- the letters name the same moves
pub moves_of-letters : (text : List ℕ) → moves_of (letters text) ≡ moves_of text
moves_of-letters text = filter_map-filter move_of_letter text

-- a text solves a board by its letters
pub letters_solve : SolvesByLetters
letters_solve b text n solved = record {
  letters = All-filter is_letter (λ byte. (is_letter byte || is_separator byte) ≡ true) text solved.letters;
  path = solved.path;
  led = subst (λ ms. Leads (side_of b) (blank b) ms solved.path) (sym (moves_of-letters text)) solved.led;
  solution = solved.solution;
  count = solved.count;
  few = solved.few;
}

-- and back
pub solved_by_letters : LettersSolve
solved_by_letters b text n alone solved = record {
  letters = alone;
  path = solved.path;
  led = subst (λ ms. Leads (side_of b) (blank b) ms solved.path) (moves_of-letters text) solved.led;
  solution = solved.solution;
  count = solved.count;
  few = solved.few;
}

-- a text without a letter has no letters
pub letters-none : (text : List ℕ) → list_any is_letter text ≡ false → letters text ≡ []
letters-none [] none = refl
letters-none (x ∷ xs) none =
    let both = or_parts (is_letter x) (list_any is_letter xs) none in
    cond-false (is_letter x) (x ∷ letters xs) (letters xs) both.0 ∙ letters-none xs both.1

-- a text has at most as many letters as bytes
pub length-letters : (text : List ℕ) → length (letters text) ≤ length text
length-letters [] = omega arith
length-letters (x ∷ xs) = go (is_letter x) (length-letters xs)
  where
    go : (b : Bool) → length (letters xs) ≤ length xs → length (cond b (x ∷ letters xs) (letters xs)) ≤ length (x ∷ xs)
    go true rest = omega arith
    go false rest = omega arith

length-moves : {Y : Type 0} (f : ℕ → Option Y) (xs : List ℕ) → length (filter_map f xs) ≡ length (filter (λ x. is_some (f x)) xs)
length-moves f [] = refl
length-moves {Y} f (x ∷ xs) = go (f x) (length-moves f xs)
  where
    go : (o : Option Y) → length (filter_map f xs) ≡ length (filter (λ x. is_some (f x)) xs)
        → length (cons_option o (filter_map f xs)) ≡ length (cond (is_some o) (x ∷ filter (λ x. is_some (f x)) xs) (filter (λ x. is_some (f x)) xs))
    go None rest = rest
    go (Some y) rest = ap suc rest

length-led : (n c : ℕ) (ms : List Move) (path : List ℕ) → Leads n c ms path → length ms ≡ length path
length-led n c [] [] led = refl
length-led n c [] (d ∷ ds) led = absurd led
length-led n c (m ∷ ms) [] led = absurd led
length-led n c (m ∷ ms) (d ∷ ds) led = ap suc (length-led n d ms ds led.1)

-- a solution of so many moves has so many letters
pub letters-solved : (b text : List ℕ) (n : ℕ) → Solves b text n → length (letters text) ≡ n
letters-solved b text n solved =
    sym (length-moves move_of_letter text) ∙ length-led (side_of b) (blank b) (moves_of text) solved.path solved.led ∙ solved.count
