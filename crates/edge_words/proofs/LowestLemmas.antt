-- Masks without their lowest number.
use Rattle.std.proofs.Common.{◌≡◌, ◌≢◌, ℕ, ◌+◌, ◌-◌, ◌*◌, ◌/◌, ◌%◌, ◌^◌, ◌<◌, ◌≤◌, inl, inr, sym, ◌∙◌, ap, arith}
use Rattle.std.specs.Int.{bit_at}
use Rattle.std.specs.Prelude.{bit_and}
use Rattle.std.proofs.lemmas.Bool.{cases_lt}
use Rattle.std.proofs.lemmas.Nat.{div-add-mod', mod_below, pow_pos}
use Rattle.std.proofs.lemmas.Nat.Bits.{bit_at-zero, bit_at_above, bit_at_cat_high, bit_at_cat_low, same_from_bits}
use Rattle.puz_board.proofs.BitLemmas.{IsIn, both_in, in_both, in_or_out, in_shr}

module _ (m f : ℕ) (here : IsIn m f) (lowest : (x : ℕ) → x < f → bit_at m x ≡ 0) where
  abbrev q : ℕ
  q = m / 2 ^ f

  whole : q * 2 ^ f + m % 2 ^ f ≡ m
  whole = div-add-mod' m (2 ^ f)

  none : m % 2 ^ f ≡ 0
  none = same_from_bits (m % 2 ^ f) 0 (λ x. elim (cases_lt x f) [
    | inl l ↦ sym (bit_at_cat_low q f (m % 2 ^ f) x l) ∙ ap (λ k. bit_at k x) whole ∙ lowest x l ∙ sym (bit_at-zero x)
    | inr g ↦ bit_at_above (m % 2 ^ f) f x (mod_below m (2 ^ f) (pow_pos f)) g ∙ sym (bit_at-zero x)
  ])

  odd : q % 2 ≡ 1
  odd = here

  less : m - 1 ≡ (q - 1) * 2 ^ f + (2 ^ f - 1)
  less =
      let some = pow_pos f in
      let low = none in
      let sum = whole in
      let one = odd in
      let r : q - 1 + 1 ≡ q = omega arith in
      let product : (q - 1 + 1) * 2 ^ f ≡ q * 2 ^ f = ap (λ k. k * 2 ^ f) r in
      let spread : (q - 1 + 1) * 2 ^ f ≡ (q - 1) * 2 ^ f + 2 ^ f = omega arith in
      omega arith

  high : (x : ℕ) → f ≤ x → bit_at (m - 1) x ≡ bit_at (q - 1) (x - f)
  high x g = ap (λ k. bit_at k x) less ∙ bit_at_cat_high (q - 1) f (2 ^ f - 1) x (let some = pow_pos f in omega arith) g

  zero_there : bit_at (m - 1) f ≡ 0
  zero_there =
      let one = odd in
      let even : (q - 1) % 2 ≡ 0 = omega arith in
      let all : (q - 1) / 1 ≡ q - 1 = omega arith in
      high f (omega arith) ∙ ap (bit_at (q - 1)) (let e : f - f ≡ 0 = omega arith in e) ∙ ap (λ k. k % 2) all ∙ even

  -- its bit is clear
  pub first_clear : bit_at (bit_and m (m - 1)) f ≡ 0
  first_clear = elim (in_or_out (bit_and m (m - 1)) f) [
    | inl i ↦ absurd (let one = (both_in m (m - 1) f i).1 in let z = zero_there in omega arith)
    | inr o ↦ o
  ]

  above : (x : ℕ) → f < x → bit_at (m - 1) x ≡ bit_at m x
  above x g =
      let j : ℕ = x - f - 1 in
      let e : x - f ≡ 1 + j = omega arith in
      let one = odd in
      let halves : (q - 1) / 2 ^ 1 ≡ q / 2 ^ 1 = omega arith in
      high x (omega arith) ∙ ap (bit_at (q - 1)) e ∙ sym (in_shr (q - 1) 1 j) ∙ ap (λ k. bit_at k j) halves ∙ in_shr q 1 j
      ∙ ap (bit_at q) (sym e) ∙ in_shr m f (x - f) ∙ ap (bit_at m) (let s : f + (x - f) ≡ x = omega arith in s)

  same : (x : ℕ) → bit_at m x ≡ 0 → bit_at (bit_and m (m - 1)) x ≡ bit_at m x
  same x out = elim (in_or_out (bit_and m (m - 1)) x) [
    | inl i ↦ absurd (let one = (both_in m (m - 1) x i).0 in omega arith)
    | inr o ↦ o ∙ sym out
  ]

  -- and the others stay
  pub others_stay : (x : ℕ) → x ≢ f → bit_at (bit_and m (m - 1)) x ≡ bit_at m x
  others_stay x ne = elim (cases_lt x f) [
    | inl l ↦ same x (lowest x l)
    | inr g ↦ elim (in_or_out m x) [
      | inl i ↦ in_both m (m - 1) x i (above x (omega arith) ∙ i) ∙ sym i
      | inr o ↦ same x o
    ]
  ]
