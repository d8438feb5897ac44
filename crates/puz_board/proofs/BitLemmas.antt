-- The bits of masks that are joined, cut, turned over and shifted.
use Rattle.std.proofs.Common.{◌≡◌, ◌≢◌, ℕ, ◌+◌, ◌-◌, ◌*◌, ◌/◌, ◌%◌, ◌^◌, ◌<◌, ◌≤◌, ◌⊎◌, inl, inr, sym, ◌∙◌, ap, subst, arith, mod-eq_of_lt}
use Rattle.std.specs.Prelude.{bit_and, bit_or}
use Rattle.std.specs.Int.{bit_at, w32}
use Rattle.std.proofs.lemmas.Bool.{cases_eq, cases_lt}
use Rattle.std.proofs.lemmas.Nat.{and_le_r, pow_pos, shr-shr}
use Rattle.std.proofs.lemmas.Nat.Bits.{bit_at-lt, bit_at_and, bit_at_or, bit_at_not, bit_at_above, bit_at_cat_low, bit_at_cat_high, bit_at-zero, same_from_bits}

-- the bit of x is set
abbrev pub IsIn : ℕ → ℕ → Type 0
IsIn m x = bit_at m x ≡ 1

-- each number is in a mask, or its bit in the mask is 0
pub in_or_out : (m x : ℕ) → IsIn m x ⊎ (bit_at m x ≡ 0)
in_or_out m x = elim (cases_eq (bit_at m x) 1) [ inl e ↦ inl e | inr ne ↦ inr (let l = bit_at-lt m x in omega arith) ]

-- a number in the common part of two masks is in both of them
pub both_in : (a b x : ℕ) → IsIn (bit_and a b) x → IsIn a x × IsIn b x
both_in a b x h = let e = bit_at_and a b x in let k = bit_at-lt a x in let l = bit_at-lt b x in (omega arith, omega arith)

-- a number in both of two masks is in their common part
pub in_both : (a b x : ℕ) → IsIn a x → IsIn b x → IsIn (bit_and a b) x
in_both a b x h g = let e = bit_at_and a b x in omega arith

-- a number in two joined masks is in one of the two
pub either_in : (a b x : ℕ) → IsIn (bit_or a b) x → IsIn a x ⊎ IsIn b x
either_in a b x h = elim (in_or_out a x) [ inl i ↦ inl i | inr o ↦ inr (let e = bit_at_or a b x in let l = bit_at-lt b x in omega arith) ]

-- a number in the first of two masks is in them joined
pub in_left : (a b x : ℕ) → IsIn a x → IsIn (bit_or a b) x
in_left a b x h = let e = bit_at_or a b x in let l = bit_at-lt b x in omega arith

-- a number in the second of two masks is in them joined
pub in_right : (a b x : ℕ) → IsIn b x → IsIn (bit_or a b) x
in_right a b x h = let e = bit_at_or a b x in let l = bit_at-lt a x in omega arith

-- `!b` at 32 bits
pub in_but : (a b x : ℕ) → a < 2 ^ 32 → b < 2 ^ 32 → IsIn a x → bit_at b x ≡ 0 → IsIn (bit_and a (2 ^ 32 - 1 - b)) x
in_but a b x fits fits_b h o = in_both a (2 ^ 32 - 1 - b) x h (elim (cases_lt x 32) [
  | inl l ↦ bit_at_not w32 b x fits_b l ∙ (omega arith)
  | inr l ↦ absurd (let z = bit_at_above a 32 x fits l in omega arith)
])

-- a number that is left when one mask is cut out of another is in the latter and not in the former
pub but_in : (a b x : ℕ) → a < 2 ^ 32 → b < 2 ^ 32 → IsIn (bit_and a (2 ^ 32 - 1 - b)) x → IsIn a x × (bit_at b x ≡ 0)
but_in a b x fits fits_b h =
    let parts = both_in a (2 ^ 32 - 1 - b) x h in (
      parts.0,
      elim (cases_lt x 32) [
        | inl l ↦ (let e : bit_at (2 ^ 32 - 1 - b) x ≡ 1 - bit_at b x = bit_at_not w32 b x fits_b l in let one = parts.1 in omega arith)
        | inr l ↦ bit_at_above b 32 x fits_b l
      ],
    )

-- a mask whose numbers are all in another one is no larger
pub sub_le : (a b : ℕ) → ((x : ℕ) → IsIn a x → IsIn b x) → a ≤ b
sub_le a b sub = subst (λ m. m ≤ b) (same_from_bits (bit_and a b) a each) (and_le_r a b)
  where
    each : (x : ℕ) → bit_at (bit_and a b) x ≡ bit_at a x
    each x = elim (in_or_out a x) [
      | inl i ↦ in_both a b x i (sub x i) ∙ sym i
      | inr o ↦ (let e = bit_at_and a b x in omega arith)
    ]

-- a mask of k bits has numbers below k alone
pub in_below : (m k x : ℕ) → m < 2 ^ k → IsIn m x → x < k
in_below m k x fits h = elim (cases_lt x k) [ inl l ↦ l | inr l ↦ absurd (let z = bit_at_above m k x fits l in omega arith) ]

-- ---- shifts

-- a shift to the right by k puts bit k + x of a mask at the place x
pub in_shr : (m k x : ℕ) → bit_at (m / 2 ^ k) x ≡ bit_at m (k + x)
in_shr m k x = ap (λ q. q % 2) (shr-shr m k x)

-- a shift to the left that loses nothing
pub in_shl : (m k x : ℕ) → m * 2 ^ k < 2 ^ 32 → IsIn m x → IsIn (m * 2 ^ k % 2 ^ 32) (k + x)
in_shl m k x fits h =
    ap (λ s. bit_at s (k + x)) (mod-eq_of_lt fits ∙ (let e : m * 2 ^ k ≡ m * 2 ^ k + 0 = omega arith in e)) ∙
    bit_at_cat_high m k 0 (k + x) (pow_pos k) (omega arith) ∙
    ap (bit_at m) (let e : k + x - k ≡ x = omega arith in e) ∙
    h

-- a number in a mask shifted to the left by k is k at least, and the number k lower is in the mask
pub shl_in : (m k x : ℕ) → m * 2 ^ k < 2 ^ 32 → IsIn (m * 2 ^ k % 2 ^ 32) x → (k ≤ x) × IsIn m (x - k)
shl_in m k x fits h = elim (cases_lt x k) [
  | inl l ↦ absurd (let z : bit_at (m * 2 ^ k + 0) x ≡ 0 = bit_at_cat_low m k 0 x l ∙ bit_at-zero x in let e = whole in omega arith)
  | inr l ↦ (l, sym (bit_at_cat_high m k 0 x (pow_pos k) l) ∙ sym whole ∙ h)
]
  where
    whole : bit_at (m * 2 ^ k % 2 ^ 32) x ≡ bit_at (m * 2 ^ k + 0) x
    whole = ap (λ s. bit_at s x) (mod-eq_of_lt fits ∙ (let e : m * 2 ^ k ≡ m * 2 ^ k + 0 = omega arith in e))

-- ---- a mask of one number

-- a mask that meets a mask of one number alone has this number
pub goal_met : (m goal c : ℕ) → ((x : ℕ) → x ≢ c → bit_at goal x ≡ bit_at 0 x) → bit_and m goal ≢ 0 → IsIn m c
goal_met m goal c others ne = elim (in_or_out m c) [ inl i ↦ i | inr o ↦ absurd (ne (same_from_bits (bit_and m goal) 0 (none o))) ]
  where
    none : bit_at m c ≡ 0 → (x : ℕ) → bit_at (bit_and m goal) x ≡ bit_at 0 x
    none o x = elim (in_or_out (bit_and m goal) x) [
      | inl i ↦ absurd (let parts = both_in m goal x i in
          elim (cases_eq x c) [
            | inl e ↦ (let z : bit_at m x ≡ 0 = ap (bit_at m) e ∙ o in let one = parts.0 in omega arith)
            | inr far ↦ (let z = others x far ∙ bit_at-zero x in let one = parts.1 in omega arith)
          ])
      | inr z ↦ z ∙ sym (bit_at-zero x)
    ]

-- a mask that doesn't meet a goal with a number in it hasn't this number
pub goal_missed : (m goal c : ℕ) → bit_at goal c ≡ 1 → bit_and m goal ≡ 0 → bit_at m c ≡ 0
goal_missed m goal c set none = elim (in_or_out m c) [
  | inl i ↦ absurd (let one = in_both m goal c i set in
      let z = ap (λ k. bit_at k c) none ∙ bit_at-zero c in omega arith)
  | inr o ↦ o
]
