-- Which fault a list of numbers has, and that a list with none is a board.
use Rattle.std.proofs.Common.{◌≡◌, ◌≢◌, ℕ, ◌*◌, ◌<◌, ◌≤◌, true, false, eqb, List, length, take, get_or, Option, None, Ok, Err, inl, inr, sym, ◌∙◌}
use Rattle.std.proofs.Common.{ap₂, arith, leb, eq-eqb, ne_eqb, get_or-take, length-take, lit≤}
use Rattle.std.proofs.lemmas.Bool.{cases_lt, cases_eq, cond-true, cond-false, leb-false, lt-leb, both_ways}
use Rattle.std.proofs.lemmas.List.Folds.{list_any_at, list_any_none}
use Rattle.std.proofs.lemmas.Grind.{get_or_default_zero}
use Rattle.std.specs.Prelude.{All}
use Rattle.puz_board.specs.declared.texts.BoardFault.TheVariants.{B1, B2, B3, B4, B5}
use Rattle.puz_board.specs.Boards.{IsBoard, at, side_of, side_of_count}
use Rattle.puz_board.specs.BoardTexts.{board_of_numbers, board_of_text, long_run, numbers_in, refuse, repeated, repeated_at, stray_byte, too_large}
use Rattle.puz_board.proofs.FirstLemmas.{fails_below, fails_each, first_below-none, position-none}

-- numbers whose count gives no side have the fault B3 with their count
pub board_of_numbers-no_side : (xs : List ℕ) → side_of xs ≡ 0 → board_of_numbers xs ≡ Err (B3 (length xs))
unfolding board_of_numbers
board_of_numbers-no_side xs none = cond-true (eqb (side_of xs) 0) (Err (B3 (length xs))) (refuse B4 (too_large xs) (refuse B5 (repeated xs) (Ok xs)))
    (eq-eqb _ _ none)

-- numbers of a right count are refused for one too large, then for one repeated, and else are the board
pub board_of_numbers-sided : (xs : List ℕ) (o p : Option ℕ) → side_of xs ≢ 0 → o ≡ too_large xs → p ≡ repeated xs
    → board_of_numbers xs ≡ refuse B4 o (refuse B5 p (Ok xs))
unfolding board_of_numbers
board_of_numbers-sided xs o p side e f =
    cond-false (eqb (side_of xs) 0) (Err (B3 (length xs))) (refuse B4 (too_large xs) (refuse B5 (repeated xs) (Ok xs))) (ne_eqb _ _ side) ∙
    ap₂ (λ u v. refuse B4 u (refuse B5 v (Ok xs))) (sym e) (sym f)

module _ (xs : List ℕ) where
  all_below : too_large xs ≡ None → (c : ℕ) → c < length xs → at xs c < length xs
  unfolding too_large
  all_below none c l = leb-false _ _ (fails_each (λ x. leb (length xs) x) xs none c l)

  not_repeated : repeated xs ≡ None → (c d : ℕ) → c < d → d < length xs → at xs c ≡ at xs d → ⊥
  unfolding repeated
  not_repeated none c d l m e =
      let few = length-take d xs in
      let place : c < length (take d xs) = omega arith in
      let same : eqb (get_or (take d xs) c 0) (at xs d) ≡ true = eq-eqb _ _ (get_or-take d xs c 0 l ∙ e) in
      both_ways (repeated_at xs d)
      (fails_below (repeated_at xs) (length xs) none d m)
      (list_any_at (λ x. eqb x (at xs d)) (take d xs) c 0 place same)

  -- n times n numbers of side 2 to 5, none too large and none repeated, are a board
  pub IsBoard-from_tests : length xs ≡ side_of xs * side_of xs → 2 ≤ side_of xs → side_of xs ≤ 5 → too_large xs ≡ None → repeated xs ≡ None → IsBoard xs
  IsBoard-from_tests size low high below once = record {
    low = low;
    high = high;
    size = size;
    below = λ c l. let h = all_below below c (omega arith) in omega arith;
    distinct = λ c d l m e. elim (cases_lt c d) [
      | inl p ↦ absurd (not_repeated once c d p (omega arith) e)
      | inr p ↦ elim (cases_eq c d) [
        | inl q ↦ q
        | inr q ↦ absurd (not_repeated once d c (omega arith) (omega arith) (sym e))
      ]
    ];
  }

module _ (xs : List ℕ) (good : IsBoard xs) where
  none_too_large : None ≡ too_large xs
  unfolding too_large
  none_too_large = sym (position-none (λ x. leb (length xs) x) xs (λ k l. lt-leb _ _ (let s = good.size in let h = good.below k (omega arith) in omega arith)))

  none_repeated : None ≡ repeated xs
  unfolding repeated
  none_repeated = sym (first_below-none (repeated_at xs) (length xs) (λ k l. list_any_none (λ x. eqb x (at xs k)) (take k xs) (others k l)))
    where
      others : (k : ℕ) → k < length xs → All (λ x. eqb x (at xs k) ≡ false) (take k xs)
      others k l i d m =
          let few = length-take k xs in
          let s = good.size in
          let below : i < k = omega arith in
          let within : i < length xs = omega arith in
          ne_eqb _ _ (λ e.
          let same : i ≡ k = good.distinct i k (omega arith) (omega arith) (sym (get_or_default_zero xs i d within) ∙ sym (get_or-take k xs i d below) ∙ e) in
          omega arith)

  -- the numbers of a board are taken
  pub board_of_numbers-board : board_of_numbers xs ≡ Ok xs
  board_of_numbers-board = board_of_numbers-sided xs None None (λ e. let low = good.low in omega arith) none_too_large none_repeated

-- ---- texts

-- a text is refused for a stray byte, then for a long run, and else is what its numbers make
pub board_of_text-is : (text : List ℕ) (o p : Option ℕ) → o ≡ stray_byte text → p ≡ long_run text
    → board_of_text text ≡ refuse B1 o (refuse B2 p (board_of_numbers (numbers_in text)))
unfolding board_of_text
board_of_text-is text o p e f = ap₂ (λ u v. refuse B1 u (refuse B2 v (board_of_numbers (numbers_in text)))) (sym e) (sym f)

-- no board has more than 25 cells
pub side_of_many : (count : ℕ) → 25 < count → side_of_count count ≡ 0
unfolding side_of_count
side_of_many count l =
    let no : (n : ℕ) → n ≤ 25 → eqb count n ≡ false = λ n m. ne_eqb count n (λ e. omega arith) in
    cond-false (eqb count 4) 2 _ (no 4 (lit≤ tt)) ∙ cond-false (eqb count 9) 3 _ (no 9 (lit≤ tt)) ∙ cond-false (eqb count 16) 4 _ (no 16 (lit≤ tt))
    ∙ cond-false (eqb count 25) 5 0 (no 25 (lit≤ tt))
