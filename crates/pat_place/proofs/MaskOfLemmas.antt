-- The mask of a mask's numbers is the mask.
use Rattle.std.specs.Prelude.{◌≡◌, ℕ, suc, ◌+◌, ◌*◌, ◌/◌, ◌%◌, ◌^◌, ◌<◌, ◌⊎◌, List, ◌∷◌, filter}
use Rattle.std.specs.Int.{bit_at}
use Rattle.std.specs.List.{range_with_len}
use Rattle.std.proofs.Common.{zero, cond, inl, inr, sym, ◌∙◌, ap, arith, zero-mul, mod-eq_of_lt}
use Rattle.std.proofs.lemmas.Bool.{cases_eq, cond-true, cond-false, eq-eqb, ne_eqb}
use Rattle.std.proofs.lemmas.Nat.{mod-pow-add, shr-shr, pow-add}
use Rattle.std.proofs.lemmas.Nat.Bits.{bit_at-lt}
use Rattle.puz_board.specs.Masks.{has_bit, numbers_below}
use Rattle.pat_place.specs.StoredPatterns.{mask_of}

doubled : (p q : ℕ) → p + q * (p * 2) ≡ (q * 2 + 1) * p
doubled p q = omega arith

doubled_only : (p q : ℕ) → q * (p * 2) ≡ (q * 2 + 0) * p
doubled_only p q = omega arith

mask_of-filter : (m n a : ℕ) → mask_of (filter (has_bit m) (range_with_len a n)) ≡ (m / 2 ^ a % 2 ^ n) * 2 ^ a
mask_of-filter m zero a = let e : m / 2 ^ a % 2 ^ 0 ≡ 0 = omega arith in rw e (sym (zero-mul (2 ^ a)))
mask_of-filter m (suc n) a = go (mask_of-filter m n (a + 1)) (cases_eq (bit_at m a) 1)
  where
    rest : List ℕ
    rest = filter (has_bit m) (range_with_len (a + 1) n)

    quotient : ℕ
    quotient = m / 2 ^ (a + 1) % 2 ^ n

    split : m / 2 ^ a % 2 ^ suc n ≡ quotient * 2 + bit_at m a
    split =
        ap (λ k. m / 2 ^ a % 2 ^ k) (let e : suc n ≡ n + 1 = omega arith in e) ∙
        mod-pow-add (m / 2 ^ a) n 1 ∙
        ap (λ q. q % 2 ^ n * 2 + bit_at m a) (shr-shr m a 1)

    go : mask_of rest ≡ quotient * 2 ^ (a + 1) → (bit_at m a ≡ 1) ⊎ (bit_at m a ≡ 1 → ⊥)
        → mask_of (cond (has_bit m a) (a ∷ rest) rest) ≡ (m / 2 ^ a % 2 ^ suc n) * 2 ^ a
    go ih (inl e) =
        ap mask_of (cond-true (has_bit m a) (a ∷ rest) rest (eq-eqb (bit_at m a) 1 e)) ∙
        ap (λ s. 2 ^ a + s) (ih ∙ ap (λ p. quotient * p) (pow-add 2 a 1)) ∙
        doubled (2 ^ a) quotient ∙
        ap (λ b. (quotient * 2 + b) * 2 ^ a) (sym e) ∙
        ap (λ x. x * 2 ^ a) (sym split)
    go ih (inr ne) =
        let none : bit_at m a ≡ 0 = let low = bit_at-lt m a in omega arith in
        ap mask_of (cond-false (has_bit m a) (a ∷ rest) rest (ne_eqb (bit_at m a) 1 ne)) ∙
        ih ∙
        ap (λ p. quotient * p) (pow-add 2 a 1) ∙
        doubled_only (2 ^ a) quotient ∙
        ap (λ b. (quotient * 2 + b) * 2 ^ a) (sym none) ∙
        ap (λ x. x * 2 ^ a) (sym split)

-- the numbers of a mask give the mask back
pub mask_of-numbers_below : (n m : ℕ) → m < 2 ^ n → mask_of (numbers_below n m) ≡ m
unfolding numbers_below
mask_of-numbers_below n m h =
    let whole : m / 2 ^ 0 ≡ m = omega arith in
    let low : m % 2 ^ n ≡ m = mod-eq_of_lt h in
    mask_of-filter m n 0 ∙ ap (λ q. q % 2 ^ n * 2 ^ 0) whole ∙ (omega arith)
