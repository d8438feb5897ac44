-- How many bits of a mask are set below a number.
use Rattle.std.proofs.Common.{◌≡◌, ◌≢◌, ℕ, zero, suc, ◌+◌, ◌-◌, ◌/◌, ◌%◌, ◌^◌, ◌<◌, ◌≤◌, ◌∙◌, ap, arith, lit<}
use Rattle.std.specs.Prelude.{count_ones}
use Rattle.std.specs.Int.{bit_at}
use Rattle.std.proofs.lemmas.Nat.{ones_cat, mod-pow-add, ones-le, ones_le_self, zero_from_ones, mod_below, pow_pos}
use Rattle.std.proofs.lemmas.Nat.Bits.{bit_at-lt}
use Rattle.puz_board.specs.Masks.{ones_below}

ones-zero : count_ones 0 ≡ 0
ones-zero = let l = ones-le 0 0 (lit< tt) in omega arith

ones-bit : (b : ℕ) → b < 2 → count_ones b ≡ b
ones-bit zero l = ones-zero
ones-bit (suc zero) l = one (count_ones 1) (ones_le_self 1) (λ e. let none : 1 ≡ 0 = zero_from_ones 1 e in omega arith)
  where
    one : (x : ℕ) → x ≤ 1 → x ≢ 0 → x ≡ 1
    one x l ne = omega arith
ones-bit (suc (suc b)) l = absurd (omega arith)

-- no bit of a mask is set below 0
pub ones_below-zero : (m : ℕ) → ones_below m 0 ≡ 0
ones_below-zero m = let e : m % 2 ^ 0 ≡ 0 = omega arith in ap count_ones e ∙ ones-zero

-- below x + 1 there are as many set bits as below x, and the bit of x besides
pub ones_below-suc : (m x : ℕ) → ones_below m (suc x) ≡ ones_below m x + bit_at m x
ones_below-suc m x =
    ap (λ k. count_ones (m % 2 ^ k)) (let e : suc x ≡ 1 + x = omega arith in e) ∙
    ap count_ones (mod-pow-add m 1 x) ∙
    ones_cat x (m / 2 ^ x % 2 ^ 1) (m % 2 ^ x) (mod_below m (2 ^ x) (pow_pos x)) ∙
    ap (λ k. k + ones_below m x) (ones-bit (bit_at m x) (bit_at-lt m x)) ∙
    (let e : bit_at m x + ones_below m x ≡ ones_below m x + bit_at m x = omega arith in e)

-- from a on there are no more bits set than numbers
ones_below-grows : (m a d : ℕ) → (ones_below m a ≤ ones_below m (a + d)) × (ones_below m (a + d) ≤ ones_below m a + d)
ones_below-grows m a zero = let e : ones_below m (a + 0) ≡ ones_below m a = ap (ones_below m) (let e : a + 0 ≡ a = omega arith in e) in
    (omega arith, omega arith)
ones_below-grows m a (suc d) =
    let ih = ones_below-grows m a d in
    let low = ih.0 in
    let high = ih.1 in
    let e : ones_below m (a + suc d) ≡ ones_below m (a + d) + bit_at m (a + d) = ap (ones_below m) (let e : a + suc d ≡ suc (a + d) = omega arith in
    e) ∙ ones_below-suc m (a + d) in
    let b = bit_at-lt m (a + d) in
    (omega arith, omega arith)

-- the greater the number, the more bits of a mask are set below it, or as many
pub ones_below-mono : (m a b : ℕ) → a ≤ b → ones_below m a ≤ ones_below m b
ones_below-mono m a b l = let h = (ones_below-grows m a (b - a)).0 in
    let e : ones_below m (a + (b - a)) ≡ ones_below m b = ap (ones_below m) (let e : a + (b - a) ≡ b = omega arith in e) in omega arith

-- ---- the number with so many below it

-- it is one of the span numbers from this one on
pub record Holds (mask place number span : ℕ) : Type 0 where
  pub within : number + span ≤ 32
  pub some : 0 < span
  pub low : ones_below mask number ≤ place
  pub high : place < ones_below mask (number + span)

-- where place bits at most are set below the half, the number sought is in the upper half
pub Holds-upper : (mask place number span half : ℕ) → Holds mask place number span → half < span → ones_below mask (number + half) ≤ place
    → Holds mask place (number + half) (span - half)
Holds-upper mask place number span half h l le = record {
  within = (let w = h.within in omega arith);
  some = omega arith;
  low = le;
  high = (let e : ones_below mask (number + half + (span - half)) ≡ ones_below mask (number + span) =
      ap (ones_below mask) (let e : number + half + (span - half) ≡ number + span = omega arith in e) in let w = h.high in omega arith);
}

-- where more than place bits are set below the half, the number sought is in the lower half
pub Holds-lower : (mask place number span half : ℕ) → Holds mask place number span → half < span → half ≤ span - half
    → place < ones_below mask (number + half) → Holds mask place number (span - half)
Holds-lower mask place number span half h l m lt = record {
  within = (let w = h.within in omega arith);
  some = omega arith;
  low = h.low;
  high = (let up = ones_below-mono mask (number + half) (number + (span - half)) (omega arith) in omega arith);
}

-- where one number alone is left, its bit is set and it has place set bits below it
pub Holds-found : (mask place number span : ℕ) → Holds mask place number span → span ≤ 1 → (bit_at mask number ≡ 1) × (ones_below mask number ≡ place)
Holds-found mask place number span h l =
    let one : span ≡ 1 = let s = h.some in omega arith in
    let e : ones_below mask (number + span) ≡ ones_below mask number + bit_at mask number =
    ap (ones_below mask) (let e : number + span ≡ suc number = omega arith in e) ∙ ones_below-suc mask number in
    let b = bit_at-lt mask number in
    let low = h.low in
    let high = h.high in
    (omega arith, omega arith)
