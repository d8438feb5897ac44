-- The cells to which a move leads from cells of a mask, by shifts of the mask.
use Rattle.std.proofs.Common.{◌≡◌, ◌≢◌, ℕ, ◌+◌, ◌-◌, ◌*◌, ◌/◌, ◌%◌, ◌^◌, ◌<◌, ◌≤◌, eqb, Some, inl, inr, sym, ◌∙◌, ap, subst, arith, lit<}
use Rattle.std.specs.Prelude.{bit_and}
use Rattle.std.proofs.lemmas.Bool.{eqb-false}
use Rattle.std.proofs.lemmas.Nat.{mul-le}
use Rattle.std.proofs.lemmas.Nat.Bits.{bit_at_ones}
use Rattle.std.proofs.Math.Nat.{pow-le-pow_right}
use Rattle.std.proofs.Math.Pow.{lt_of_le_ones}
use Rattle.puz_board.specs.Cells.{reverse_of, step_of}
use Rattle.puz_board.specs.Masks.{IsMaskOf}
use Rattle.puz_board.proofs.BitLemmas.{IsIn, both_in, in_both, in_but, in_or_out, in_shl, in_shr, sub_le}
use Rattle.puz_board.proofs.CellLemmas.{by_side, stays}
use Rattle.edge_words.proofs.EdgeLemmas.{pick}

row_above : (n : ℕ) → 2 ≤ n → n ≤ 5 → (c : ℕ) → c / n ≢ 0 → n ≤ c
row_above = by_side (λ n. (c : ℕ) → c / n ≢ 0 → n ≤ c) (λ c ne. omega arith) (λ c ne. omega arith) (λ c ne. omega arith) (λ c ne. omega arith)

cell_before : (n : ℕ) → 2 ≤ n → n ≤ 5 → (c : ℕ) → c % n ≢ 0 → 1 ≤ c
cell_before = by_side (λ n. (c : ℕ) → c % n ≢ 0 → 1 ≤ c) (λ c ne. omega arith) (λ c ne. omega arith) (λ c ne. omega arith) (λ c ne. omega arith)

module _ (n : ℕ) (low : 2 ≤ n) (high : n ≤ 5) (free : ℕ) (within : (c : ℕ) → IsIn free c → c < 25) where
  narrow : free < 2 ^ 25
  narrow = lt_of_le_ones 25 (sub_le free (2 ^ 25 - 1) (λ c one. bit_at_ones 25 c (within c one)))

  fits : (k : ℕ) → k ≤ 5 → free * 2 ^ k < 2 ^ 32
  fits k l =
      let few = narrow in
      let shift : 2 ^ k ≤ 2 ^ 5 = pow-le-pow_right (lit< tt) l in
      omega (arith, mul-le free (2 ^ k) (2 ^ 25 - 1) (2 ^ 5) (omega arith) shift)

  part : (other : ℕ) → bit_and free other < 2 ^ 32
  part other = let few = narrow in let less = sub_le (bit_and free other) free (λ c h. (both_in free other c h).0) in omega arith

  module _ (digit from to : ℕ) (there : IsIn free from) (here : IsIn free to) (leads : step_of n to (reverse_of (pick digit)) ≡ Some from) where
    -- a move up leads to a cell from the one below it
    pub led_up : digit ≡ 0 → IsIn (bit_and free (free / 2 ^ n)) to
    led_up is =
        let way = stays (eqb (to / n) (n - 1)) (to + n) from (ap (λ d. step_of n to (reverse_of (pick d))) (sym is) ∙ leads) in
        let e : n + to ≡ from = let q = way.1 in omega arith in
        in_both free (free / 2 ^ n) to here (in_shr free n to ∙ subst (IsIn free) (sym e) there)

    -- a move down leads to a cell from the one above it
    pub led_down : digit ≡ 1 → IsIn (bit_and free (free * 2 ^ n % 2 ^ 32)) to
    led_down is =
        let way = stays (eqb (to / n) 0) (to - n) from (ap (λ d. step_of n to (reverse_of (pick d))) (sym is) ∙ leads) in
        let l = row_above n low high to (eqb-false (to / n) 0 way.0) in
        let e : n + from ≡ to = let q = way.1 in omega arith in
        in_both free (free * 2 ^ n % 2 ^ 32) to here (subst (IsIn (free * 2 ^ n % 2 ^ 32)) e (in_shl free n from (fits n high) there))

    module _ (column : ℕ) (small : column < 2 ^ 32) where
      -- a move to the left leads to a cell that isn't the last of its row from the next one
      pub led_left : digit ≡ 2 → IsMaskOf column (λ c. (c < n * n) × (c % n ≡ n - 1))
          → IsIn (bit_and (bit_and free (free / 2 ^ 1)) (2 ^ 32 - 1 - column)) to
      led_left is last =
          let way = stays (eqb (to % n) (n - 1)) (to + 1) from (ap (λ d. step_of n to (reverse_of (pick d))) (sym is) ∙ leads) in
          let e : 1 + to ≡ from = let q = way.1 in omega arith in
          in_but (bit_and free (free / 2 ^ 1)) column to (part (free / 2 ^ 1)) small
          (in_both free (free / 2 ^ 1) to here (in_shr free 1 to ∙ subst (IsIn free) (sym e) there))
          (elim (in_or_out column to) [ inl i ↦ absurd (eqb-false (to % n) (n - 1) way.0 ((last to).0 i).1) | inr o ↦ o ])

      -- a move to the right leads to a cell that isn't the first of its row from the one before it
      pub led_right : digit ≡ 3 → IsMaskOf column (λ c. (c < n * n) × (c % n ≡ 0))
          → IsIn (bit_and (bit_and free (free * 2 ^ 1 % 2 ^ 32)) (2 ^ 32 - 1 - column)) to
      led_right is first =
          let way = stays (eqb (to % n) 0) (to - 1) from (ap (λ d. step_of n to (reverse_of (pick d))) (sym is) ∙ leads) in
          let l = cell_before n low high to (eqb-false (to % n) 0 way.0) in
          let e : 1 + from ≡ to = let q = way.1 in omega arith in
          in_but (bit_and free (free * 2 ^ 1 % 2 ^ 32)) column to (part (free * 2 ^ 1 % 2 ^ 32)) small
          (in_both free (free * 2 ^ 1 % 2 ^ 32) to here
          (subst (IsIn (free * 2 ^ 1 % 2 ^ 32)) e (in_shl free 1 from (fits 1 (omega arith)) there)))
          (elim (in_or_out column to) [ inl i ↦ absurd (eqb-false (to % n) 0 way.0 ((first to).0 i).1) | inr o ↦ o ])
