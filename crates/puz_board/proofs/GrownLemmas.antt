-- Masks that grow by the cells next to them.
use Rattle.std.proofs.Common.{◌≡◌, ◌≢◌, ℕ, ◌+◌, ◌-◌, ◌*◌, ◌/◌, ◌%◌, ◌^◌, ◌<◌, ◌≤◌, true, eqb, ◌⊎◌, Some, inl, inr, sym, ◌∙◌, ap, subst, arith, ltb, lit<}
use Rattle.std.specs.Prelude.{bit_and, bit_or, ◌&&◌}
use Rattle.std.specs.Int.{bit_at}
use Rattle.std.proofs.lemmas.Bool.{eqb-false, eqb-true, eq-eqb, ltb-true, lt-ltb, and_parts, and_from, agree_below, agree_below_at}
use Rattle.std.proofs.lemmas.Nat.{mul-le}
use Rattle.std.proofs.Math.Nat.{pow-le-pow_right}
use Rattle.puz_board.specs.declared.moves.Move.{Move}
use Rattle.puz_board.specs.declared.moves.Move.TheVariants.{Up, Down, Left, Right}
use Rattle.puz_board.specs.Cells.{step_of, Adjacent}
use Rattle.puz_board.proofs.CellLemmas.{by_side, few_cells, goes, stays}
use Rattle.puz_board.specs.Masks.{IsMaskOf}
use Rattle.puz_board.proofs.BitLemmas.{IsIn, both_in, in_both, either_in, in_left, in_right, in_shr, in_shl, shl_in, sub_le, in_below, in_or_out}
use Rattle.puz_board.proofs.BitLemmas.{in_but, but_in}

-- ---- adjacent cells by their numbers

below_row : (n : ℕ) → 2 ≤ n → n ≤ 5 → (c : ℕ) → n + c < n * n → c / n ≢ n - 1
below_row = by_side (λ n. (c : ℕ) → n + c < n * n → c / n ≢ n - 1) (λ c l e. omega arith) (λ c l e. omega arith) (λ c l e. omega arith) (λ c l e. omega arith)

above_row : (n : ℕ) → 2 ≤ n → n ≤ 5 → (d : ℕ) → (n + d) / n ≢ 0
above_row = by_side (λ n. (d : ℕ) → (n + d) / n ≢ 0) (λ d e. omega arith) (λ d e. omega arith) (λ d e. omega arith) (λ d e. omega arith)

left_column : (n : ℕ) → 2 ≤ n → n ≤ 5 → (c : ℕ) → (1 + c) % n ≢ 0 → c % n ≢ n - 1
left_column = by_side (λ n. (c : ℕ) → (1 + c) % n ≢ 0 → c % n ≢ n - 1) (λ c ne e. omega arith) (λ c ne e. omega arith) (λ c ne e. omega arith)
    (λ c ne e. omega arith)

right_column : (n : ℕ) → 2 ≤ n → n ≤ 5 → (d : ℕ) → d % n ≢ n - 1 → (1 + d) % n ≢ 0
right_column = by_side (λ n. (d : ℕ) → d % n ≢ n - 1 → (1 + d) % n ≢ 0) (λ d ne e. omega arith) (λ d ne e. omega arith) (λ d ne e. omega arith)
    (λ d ne e. omega arith)

from_above : (n : ℕ) → 2 ≤ n → n ≤ 5 → (c : ℕ) → c / n ≢ 0 → n ≤ c
from_above = by_side (λ n. (c : ℕ) → c / n ≢ 0 → n ≤ c) (λ c ne. omega arith) (λ c ne. omega arith) (λ c ne. omega arith) (λ c ne. omega arith)

from_first : (n : ℕ) → 2 ≤ n → n ≤ 5 → (c : ℕ) → c % n ≢ 0 → 1 ≤ c
from_first = by_side (λ n. (c : ℕ) → c % n ≢ 0 → 1 ≤ c) (λ c ne. omega arith) (λ c ne. omega arith) (λ c ne. omega arith) (λ c ne. omega arith)

module _ (n : ℕ) (low : 2 ≤ n) (high : n ≤ 5) where
  -- a move leads from a cell to the one n further, which is below it, where the board has this
  pub adjacent_down : (c : ℕ) → n + c < n * n → Adjacent n c (n + c)
  adjacent_down c l = (l, Down, goes (c / n) (n - 1) (c + n) (n + c) (below_row n low high c l) (omega arith))

  -- a move leads to a cell of the board from the one n further, which is below it
  pub adjacent_up : (d : ℕ) → d < n * n → Adjacent n (n + d) d
  adjacent_up d l = (l, Up, goes ((n + d) / n) 0 (n + d - n) d (above_row n low high d) (omega arith))

  -- a move leads from a cell to the next one, where this one isn't the first of its row
  pub adjacent_right : (c : ℕ) → 1 + c < n * n → (1 + c) % n ≢ 0 → Adjacent n c (1 + c)
  adjacent_right c l ne = (l, Right, goes (c % n) (n - 1) (c + 1) (1 + c) (left_column n low high c ne) (omega arith))

  -- a move leads from the next cell back to one that isn't the last of its row
  pub adjacent_left : (d : ℕ) → d < n * n → d % n ≢ n - 1 → Adjacent n (1 + d) d
  adjacent_left d l ne = (l, Left, goes ((1 + d) % n) 0 (1 + d - 1) d (right_column n low high d ne) (omega arith))

-- ---- a grown mask

module _ (n : ℕ) (low : 2 ≤ n) (high : n ≤ 5) (free right left mask : ℕ) (within : free < 2 ^ (n * n))
    (is_right : IsMaskOf right (λ c. IsIn free c × (c % n ≢ 0))) (is_left : IsMaskOf left (λ c. IsIn free c × (c % n ≢ n - 1)))
    (inside : (c : ℕ) → IsIn mask c → IsIn free c) where
  -- no cell is lost by a shift
  fits : (k : ℕ) → k ≤ 5 → mask * 2 ^ k < 2 ^ 32
  fits k l =
      let less : mask ≤ free = sub_le mask free inside in
      let few : 2 ^ (n * n) ≤ 2 ^ 25 = pow-le-pow_right (lit< tt) (few_cells n low high) in
      let shift : 2 ^ k ≤ 2 ^ 5 = pow-le-pow_right (lit< tt) l in
      omega (arith, mul-le mask (2 ^ k) (2 ^ 25 - 1) (2 ^ 5) (omega arith) shift)

  abbrev Next : ℕ → Type 0
  Next d = IsIn mask d ⊎ (IsIn free d × (c : ℕ) × IsIn mask c × Adjacent n c d)

  inner : (x : ℕ) → IsIn free x → x < n * n
  inner x h = in_below free (n * n) x within h

  vertical : (x : ℕ) → IsIn (bit_and (bit_or (mask * 2 ^ n % 2 ^ 32) (mask / 2 ^ n)) free) x → Next x
  vertical x h =
      let parts = both_in (bit_or (mask * 2 ^ n % 2 ^ 32) (mask / 2 ^ n)) free x h in
      elim (either_in (mask * 2 ^ n % 2 ^ 32) (mask / 2 ^ n) x parts.0) [
        | inl up ↦ (
            let from = shl_in mask n x (fits n high) up in
            let e : n + (x - n) ≡ x = let l = from.0 in omega arith in
            inr (parts.1, x - n, from.1, subst (λ d. Adjacent n (x - n) d) e (adjacent_down n low high (x - n) (let l = inner x parts.1 in omega arith))))
        | inr down ↦ inr (parts.1, n + x, sym (in_shr mask n x) ∙ down, adjacent_up n low high x (inner x parts.1))
      ]

  horizontal : (x : ℕ) → IsIn (bit_or (bit_and (mask * 2 ^ 1 % 2 ^ 32) right) (bit_and (mask / 2 ^ 1) left)) x → Next x
  horizontal x h = elim (either_in (bit_and (mask * 2 ^ 1 % 2 ^ 32) right) (bit_and (mask / 2 ^ 1) left) x h) [
    | inl a ↦ (
        let parts = both_in (mask * 2 ^ 1 % 2 ^ 32) right x a in
        let from = shl_in mask 1 x (fits 1 (omega arith)) parts.0 in
        let to = (is_right x).0 parts.1 in
        let e : 1 + (x - 1) ≡ x = let l = from.0 in omega arith in
        inr (
          to.0,
          x - 1,
          from.1,
          subst (λ d. Adjacent n (x - 1) d) e
              (adjacent_right n low high (x - 1) (let l = inner x to.0 in omega arith) (subst (λ d. d % n ≢ 0) (sym e) to.1)),
        ))
    | inr b ↦ (
        let parts = both_in (mask / 2 ^ 1) left x b in
        let to = (is_left x).0 parts.1 in
        inr (to.0, 1 + x, sym (in_shr mask 1 x) ∙ parts.0, adjacent_left n low high x (inner x to.0) to.1))
  ]

  abbrev up_down : ℕ
  up_down = bit_and (bit_or (mask * 2 ^ n % 2 ^ 32) (mask / 2 ^ n)) free

  abbrev side_ways : ℕ
  side_ways = bit_or (bit_and (mask * 2 ^ 1 % 2 ^ 32) right) (bit_and (mask / 2 ^ 1) left)

  to_next : (d c : ℕ) → IsIn free d → IsIn mask c → (m : Move) → step_of n c m ≡ Some d → IsIn up_down d ⊎ IsIn side_ways d
  to_next d c is_free from Up e =
      let way = stays (eqb (c / n) 0) (c - n) d e in
      let is : c ≡ n + d = let l = from_above n low high c (eqb-false (c / n) 0 way.0) in let q = way.1 in omega arith in
      inl (in_both (bit_or (mask * 2 ^ n % 2 ^ 32) (mask / 2 ^ n)) free d
      (in_right (mask * 2 ^ n % 2 ^ 32) (mask / 2 ^ n) d (in_shr mask n d ∙ ap (bit_at mask) (sym is) ∙ from)) is_free)
  to_next d c is_free from Down e =
      let way = stays (eqb (c / n) (n - 1)) (c + n) d e in
      let is : n + c ≡ d = let q = way.1 in omega arith in
      inl (in_both (bit_or (mask * 2 ^ n % 2 ^ 32) (mask / 2 ^ n)) free d
      (in_left (mask * 2 ^ n % 2 ^ 32) (mask / 2 ^ n) d (subst (λ x. IsIn (mask * 2 ^ n % 2 ^ 32) x) is (in_shl mask n c (fits n high) from))) is_free)
  to_next d c is_free from Left e =
      let way = stays (eqb (c % n) 0) (c - 1) d e in
      let is : c ≡ 1 + d = let l = from_first n low high c (eqb-false (c % n) 0 way.0) in let q = way.1 in omega arith in
      let column : d % n ≢ n - 1 = left_column n low high d (subst (λ x. x % n ≢ 0) is (eqb-false (c % n) 0 way.0)) in
      inr (in_right (bit_and (mask * 2 ^ 1 % 2 ^ 32) right) (bit_and (mask / 2 ^ 1) left) d
      (in_both (mask / 2 ^ 1) left d (in_shr mask 1 d ∙ ap (bit_at mask) (sym is) ∙ from) ((is_left d).1 (is_free, column))))
  to_next d c is_free from Right e =
      let way = stays (eqb (c % n) (n - 1)) (c + 1) d e in
      let is : 1 + c ≡ d = let q = way.1 in omega arith in
      let column : d % n ≢ 0 = subst (λ x. x % n ≢ 0) is (right_column n low high c (eqb-false (c % n) (n - 1) way.0)) in
      inr (in_left (bit_and (mask * 2 ^ 1 % 2 ^ 32) right) (bit_and (mask / 2 ^ 1) left) d
      (in_both (mask * 2 ^ 1 % 2 ^ 32) right d (subst (λ x. IsIn (mask * 2 ^ 1 % 2 ^ 32) x) is (in_shl mask 1 c (fits 1 (omega arith)) from))
      ((is_right d).1 (is_free, column))))

  -- a mask grown by its neighbours has its own cells and the free cells that are adjacent to one of them
  pub grown_is : IsMaskOf (bit_or (bit_or mask up_down) side_ways) (λ d. IsIn mask d ⊎ (IsIn free d × (c : ℕ) × IsIn mask c × Adjacent n c d))
  grown_is x = (
    λ h. elim (either_in (bit_or mask up_down) side_ways x h) [
      | inl a ↦ elim (either_in mask up_down x a) [ inl m ↦ inl m | inr v ↦ vertical x v ]
      | inr b ↦ horizontal x b
    ],
    λ h. elim h [
      | inl m ↦ in_left (bit_or mask up_down) side_ways x (in_left mask up_down x m)
      | inr w ↦ elim (to_next x w.1 w.0 w.2 w.3.1 w.3.2) [
        | inl v ↦ in_left (bit_or mask up_down) side_ways x (in_right mask up_down x v)
        | inr s ↦ in_right (bit_or mask up_down) side_ways x s
      ]
    ],
  )

-- ---- a column

-- by its test at each cell
pub column_is : (n k mask : ℕ) → n * n ≤ 25 → mask < 2 ^ 25
    → agree_below (λ x. eqb (bit_at mask x) 1) (λ x. ltb x (n * n) && eqb (x % n) k) 25 ≡ true → IsMaskOf mask (λ c. (c < n * n) × (c % n ≡ k))
column_is n k mask few fits same x = (
  λ h.
      let l = in_below mask 25 x fits h in
      let both = and_parts (ltb x (n * n)) (eqb (x % n) k) (sym (agree x l) ∙ eq-eqb (bit_at mask x) 1 h) in
      (ltb-true x (n * n) both.0, eqb-true (x % n) k both.1),
  λ w.
      let inside : x < n * n = w.0 in
      let l : x < 25 = omega arith in
      eqb-true (bit_at mask x) 1 (agree x l ∙ and_from (ltb x (n * n)) (eqb (x % n) k) (lt-ltb x (n * n) w.0) (eq-eqb (x % n) k w.1)),
)
  where
    agree : (x : ℕ) → x < 25 → eqb (bit_at mask x) 1 ≡ (ltb x (n * n) && eqb (x % n) k)
    agree x l = agree_below_at (λ x. eqb (bit_at mask x) 1) (λ x. ltb x (n * n) && eqb (x % n) k) 25 x same l

-- the free cells outside a column
pub outside_column : (n k free column : ℕ) → free < 2 ^ 32 → column < 2 ^ 32 → free < 2 ^ (n * n) → IsMaskOf column (λ c. (c < n * n) × (c % n ≡ k))
    → IsMaskOf (bit_and free (2 ^ 32 - 1 - column)) (λ c. IsIn free c × (c % n ≢ k))
outside_column n k free column fits fits_column within is x = (
  λ h.
      let parts = but_in free column x fits fits_column h in
      (parts.0, λ e. let one = (is x).1 (in_below free (n * n) x within parts.0, e) in let z = parts.1 in omega arith),
  λ w. in_but free column x fits fits_column w.0 (elim (in_or_out column x) [ inl i ↦ absurd (w.1 ((is x).0 i).1) | inr o ↦ o ]),
)

-- a mask of the cells of a board of side 2 to 5 fits in 32 bits
pub free_fits : (n free : ℕ) → 2 ≤ n → n ≤ 5 → free < 2 ^ (n * n) → free < 2 ^ 32
free_fits n free low high within = let few : 2 ^ (n * n) ≤ 2 ^ 25 = pow-le-pow_right (lit< tt) (few_cells n low high) in omega arith
