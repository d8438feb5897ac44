-- Patterns: how many tiles they have, and how their masks look.
use Rattle.std.proofs.Common.{◌≡◌, ℕ, zero, suc, ◌+◌, ◌-◌, ◌*◌, ◌/◌, ◌%◌, ◌^◌, ◌<◌, ◌≤◌, cond, eqb, length, inl, inr, sym, ◌∙◌, ap, subst, arith}
use Rattle.std.specs.Prelude.{count_ones}
use Rattle.std.specs.Int.{bit_at}
use Rattle.std.specs.List.{AllByRecursion}
use Rattle.std.proofs.lemmas.Bool.{cases_eq, cases_lt, cond_both}
use Rattle.std.proofs.lemmas.Nat.Bits.{bit_at-lt, same_from_bits, bit_at-zero, bit_at_above, bit_at_lowest}
use Rattle.puz_board.specs.Masks.{numbers_of}
use Rattle.puz_board.proofs.BitLemmas.{in_shr}
use Rattle.puz_board.proofs.HasLemmas.{all_from_has, has_from_all}
use Rattle.pat_place.specs.Patterns.{ShownPattern, IsPattern, most_tiles}
use Rattle.pat_place.proofs.MaskLemmas.{has-numbers_below, in_numbers_below, length-numbers_below, ascending-numbers_below}

-- whatever the side, a pattern may have 8 tiles at most
pub most_tiles-le : (n : ℕ) → most_tiles n ≤ 8
most_tiles-le n = cond_both (eqb n 2) 3 (cond (eqb n 5) 6 8) (λ k. k ≤ 8) (λ _. omega arith)
    (λ _. cond_both (eqb n 5) 6 8 (λ k. k ≤ 8) (λ _. omega arith) (λ _. omega arith))

-- no pattern has more than 8 tiles
pub few_tiles : (p : ShownPattern) → IsPattern p → length p.tiles ≤ 8
few_tiles p good = let a = most_tiles-le p.side in let b = good.most in omega arith

-- ---- the test of a mask: no blank, and nothing from the count of cells on

zero_of_bits : (q : ℕ) → ((i : ℕ) → bit_at q i ≡ 0) → q ≡ 0
zero_of_bits q none = same_from_bits q 0 (λ i. none i ∙ sym (bit_at-zero i))

-- an even mask with no bit from the count of cells on has tiles alone
pub tiles_only : (mask cells : ℕ) → mask % 2 ≡ 0 → mask / 2 ^ cells ≡ 0 → AllByRecursion (λ t. (0 < t) × (t < cells)) (numbers_of mask)
tiles_only mask cells even low = all_from_has (λ t. (0 < t) × (t < cells)) (numbers_of mask) (λ x h. let one = (in_numbers_below 32 mask x h).1 in
    (positive x one, below x one))
  where
    positive : (x : ℕ) → bit_at mask x ≡ 1 → 0 < x
    positive zero one = absurd (let e = bit_at_lowest mask in omega arith)
    positive (suc x) one = omega arith

    below : (x : ℕ) → bit_at mask x ≡ 1 → x < cells
    below x one = elim (cases_lt x cells) [
      | inl l ↦ l
      | inr l ↦ absurd (
          let e : bit_at (mask / 2 ^ cells) (x - cells) ≡ bit_at mask x = in_shr mask cells (x - cells)
          ∙ ap (bit_at mask) (let e : cells + (x - cells) ≡ x = omega arith in e) in
          let z : bit_at (mask / 2 ^ cells) (x - cells) ≡ 0 = ap (λ q. bit_at q (x - cells)) low ∙ bit_at-zero (x - cells) in
          omega arith)
    ]

-- a mask of tiles alone is even, since the blank's bit isn't set
pub even_of_tiles : (mask cells : ℕ) → AllByRecursion (λ t. (0 < t) × (t < cells)) (numbers_of mask) → mask % 2 ≡ 0
even_of_tiles mask cells all = elim (cases_eq (bit_at mask 0) 1) [
  | inl one ↦ absurd (let l : 0 < 0 = (has_from_all (λ t. (0 < t) × (t < cells)) (numbers_of mask) 0 all
      (has-numbers_below 32 mask 0 (omega arith) one)).0 in omega arith)
  | inr other ↦ (let e = bit_at_lowest mask in let l = bit_at-lt mask 0 in omega arith)
]

-- a mask of tiles alone has no bit from the count of cells on
pub low_of_tiles : (mask cells : ℕ) → mask < 2 ^ 32 → AllByRecursion (λ t. (0 < t) × (t < cells)) (numbers_of mask) → mask / 2 ^ cells ≡ 0
low_of_tiles mask cells fits all = zero_of_bits (mask / 2 ^ cells) (λ i. in_shr mask cells i ∙ none (cells + i) (omega arith))
  where
    none : (x : ℕ) → cells ≤ x → bit_at mask x ≡ 0
    none x l = elim (cases_lt x 32) [
      | inr high ↦ bit_at_above mask 32 x fits high
      | inl low ↦ elim (cases_eq (bit_at mask x) 1) [
        | inl one ↦ absurd (let k : x < cells = (has_from_all (λ t. (0 < t) × (t < cells)) (numbers_of mask) x all
            (has-numbers_below 32 mask x low one)).1 in omega arith)
        | inr other ↦ let b = bit_at-lt mask x in omega arith
      ]
    ]

-- ---- patterns of masks

-- what is shown of a pattern with this side and this mask
abbrev pub pattern_with : ℕ → ℕ → ShownPattern
pattern_with n mask = record { side = n; tiles = numbers_of mask }

-- the numbers of the mask are tiles of a board with so many cells
abbrev pub Tiles : ℕ → ℕ → Type 0
Tiles cells mask = AllByRecursion (λ t. (0 < t) × (t < cells)) (numbers_of mask)

-- the mask has at least one number, and no more than a pattern of the side may have
abbrev pub Sized : ℕ → ℕ → Type 0
Sized n mask = (0 < count_ones mask) × (count_ones mask ≤ most_tiles n)

-- a mask of tiles alone, and of a number that its side allows, makes a pattern
pub pattern_from : (n m mask : ℕ) → m ≡ n → 2 ≤ n → n ≤ 5 → mask < 2 ^ 32 → Tiles (m * m) mask → Sized m mask → IsPattern (pattern_with n mask)
pattern_from n m mask e low high fits tiles size =
    let count = length-numbers_below 32 mask fits in
    subst (λ s. IsPattern (pattern_with s mask)) e (record {
      low = omega arith;
      high = omega arith;
      ascending = ascending-numbers_below 32 mask;
      tiles = tiles;
      some = (let l = size.0 in omega arith);
      most = (let l = size.1 in omega arith);
    })

-- the mask of a pattern has tiles of its board alone
pub Tiles-from : (n m mask : ℕ) → m ≡ n → IsPattern (pattern_with n mask) → Tiles (m * m) mask
Tiles-from n m mask e good = subst (λ s. Tiles (s * s) mask) (sym e) good.tiles

-- the mask of a pattern has one number at least, and no more than its side allows
pub Sized-from : (n m mask : ℕ) → m ≡ n → mask < 2 ^ 32 → IsPattern (pattern_with n mask) → Sized m mask
Sized-from n m mask e fits good =
    let count = length-numbers_below 32 mask fits in
    subst (λ s. Sized s mask) (sym e) (let l = good.some in omega arith, let l = good.most in omega arith)
