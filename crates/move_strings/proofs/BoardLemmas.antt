-- The goal board, with the blank exchanged with the number in a cell, is a board.
use Rattle.std.proofs.Common.{◌≡◌, ◌≢◌, ℕ, ◌*◌, ◌<◌, ◌≤◌, eqb, List, length, get_or, take, Option, Some, None, inl, inr, refl, sym, ◌∙◌, ap, subst}
use Rattle.std.proofs.Common.{arith, eq-eqb, ne_eqb}
use Rattle.std.specs.Prelude.{IfSome, IsSome, SomeIff}
use Rattle.std.proofs.lemmas.Bool.{cases_eq, cond-true, cond-false}
use Rattle.std.proofs.lemmas.List.{get_or-take, length-take-le}
use Rattle.puz_board.specs.Boards.{IsBoard, IsBoardOf, blank}
use Rattle.puz_board.proofs.BoardLemmas.{cell_of-is, side_of-board}
use Rattle.move_strings.specs.Checks.{exchanged}

exchanged-cell : (cell place : ℕ) → place ≡ cell → exchanged cell place ≡ 0
exchanged-cell cell place e = cond-true (eqb place cell) 0 _ (eq-eqb place cell e)

exchanged-first : (cell place : ℕ) → place ≢ cell → place ≡ 0 → exchanged cell place ≡ cell
exchanged-first cell place ne e = cond-false (eqb place cell) 0 _ (ne_eqb place cell ne) ∙ cond-true (eqb place 0) cell place (eq-eqb place 0 e)

exchanged-else : (cell place : ℕ) → place ≢ cell → place ≢ 0 → exchanged cell place ≡ place
exchanged-else cell place ne some = cond-false (eqb place cell) 0 _ (ne_eqb place cell ne) ∙ cond-false (eqb place 0) cell place (ne_eqb place 0 some)

exchanged-below : (n cell place : ℕ) → cell < n → place < n → exchanged cell place < n
exchanged-below n cell place low inside = elim (cases_eq place cell) [
  | inl e ↦ let is = exchanged-cell cell place e in omega arith
  | inr ne ↦ elim (cases_eq place 0) [
    | inl e ↦ let is = exchanged-first cell place ne e in omega arith
    | inr some ↦ let is = exchanged-else cell place ne some in omega arith
  ]
]

-- exchanged twice, each number is back
exchanged-twice : (cell place : ℕ) → exchanged cell (exchanged cell place) ≡ place
exchanged-twice cell place = elim (cases_eq place cell) [
  | inl e ↦ ap (exchanged cell) (exchanged-cell cell place e) ∙ elim (cases_eq 0 cell) [
    | inl none ↦ exchanged-cell cell 0 none ∙ none ∙ sym e
    | inr some ↦ exchanged-first cell 0 some refl ∙ sym e
  ]
  | inr ne ↦ elim (cases_eq place 0) [
    | inl e ↦ ap (exchanged cell) (exchanged-first cell place ne e) ∙ exchanged-cell cell cell refl ∙ sym e
    | inr some ↦ ap (exchanged cell) (exchanged-else cell place ne some) ∙ exchanged-else cell place ne some
  ]
]

module _ (n cell : ℕ) (b : List ℕ) (inside : cell < n * n) (each : (k : ℕ) → k < n * n → get_or b k 0 ≡ exchanged cell k) where
  IsBoardOf-exchanged : 2 ≤ n → n ≤ 5 → length b ≡ n * n → IsBoardOf n b
  IsBoardOf-exchanged low high long = record {
    low = low;
    high = high;
    size = long;
    below = λ c l. subst (λ x. x < n * n) (sym (each c l)) (exchanged-below (n * n) cell c inside l);
    distinct = λ c d l m e. sym (exchanged-twice cell c) ∙ ap (exchanged cell) (sym (each c l) ∙ e ∙ each d m) ∙ exchanged-twice cell d;
  }

  blank-exchanged : IsBoardOf n b → blank b ≡ cell
  blank-exchanged good = cell_of-is n b good 0 cell inside (each cell inside ∙ exchanged-cell cell cell refl)

-- the numbers that are put in an array's first cells
pub put_board : (n cell count : ℕ) (numbers : List ℕ) → 2 ≤ n → n ≤ 5 → cell < n * n → count ≡ n * n → length numbers ≡ 25
    → ((k : ℕ) → k < count → get_or numbers k 0 ≡ exchanged cell k) → IsBoardOf n (take count numbers) × (blank (take count numbers) ≡ cell)
put_board n cell count numbers low high inside is long each = (good, blank-exchanged n cell (take count numbers) inside put good)
  where
    put : (k : ℕ) → k < n * n → get_or (take count numbers) k 0 ≡ exchanged cell k
    put k l = get_or-take count numbers k 0 (omega arith) ∙ each k (omega arith)

    few : n * n ≤ 25
    few = grind arith

    good : IsBoardOf n (take count numbers)
    good = IsBoardOf-exchanged n cell (take count numbers) inside put low high (length-take-le count numbers (let bound = few in omega arith) ∙ is)

-- what is answered exactly for boards is answered for a board
pub some_board : (n : ℕ) (b : List ℕ) → IsBoardOf n b → (o : Option (List ℕ)) → SomeIff o (IsBoard b) b → IsSome o × IfSome o (λ x. x ≡ b)
some_board n b good None none = absurd (none (subst (λ k. IsBoardOf k b) (sym (side_of-board n b good)) good))
some_board n b good (Some x) is = (refl, is.1)

-- what holds of a board holds of an option's value that is that board
pub if_board : (P : List ℕ → Type 0) (b : List ℕ) → P b → (o : Option (List ℕ)) → IfSome o (λ x. x ≡ b) → IfSome o P
if_board P b holds None is = tt
if_board P b holds (Some x) is = subst P (sym is) holds
