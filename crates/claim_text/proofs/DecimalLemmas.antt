-- The bytes of decimals.
use Rattle.std.proofs.Common.{◌≡◌, ℕ, zero, suc, ◌+◌, ◌/◌, ◌%◌, ◌<◌, ◌≤◌, Bool, true, false, List, [], ◌∷◌, cond, eqb, ltb, not, sym, ◌∙◌, ap, arith, decimal}
use Rattle.std.proofs.lemmas.Bool.{ne_eqb, not_from_false}
use Rattle.std.proofs.lemmas.Fmt.{decimal_is_IsNumeral}
use Rattle.std.proofs.lemmas.List.Elements.{All-cons, All-nil}
use Rattle.std.specs.Fmt.{digit_glyph, digits, digits_onto}
use Rattle.std.specs.Str.Parse.{digits_value}
use Rattle.claim_text.specs.Claims.{HasNo}

glyph_other : (byte d : ℕ) → byte < 48 → eqb (digit_glyph false d) byte ≡ false
glyph_other byte d small = go (ltb d 10)
  where
    go : (b : Bool) → eqb (cond b (48 + d) (87 + d)) byte ≡ false
    go true = ne_eqb (48 + d) byte (λ e. omega arith)
    go false = ne_eqb (87 + d) byte (λ e. omega arith)

digits_onto-no : (byte k n : ℕ) (acc : List ℕ) → byte < 48 → HasNo byte acc → HasNo byte (digits_onto k 10 false n acc)
digits_onto-no byte zero n acc small none = none
digits_onto-no byte (suc k) n acc small none =
    go (eqb (n / 10) 0) (All-cons (λ b. not (eqb b byte) ≡ true) (digit_glyph false (n % 10)) acc
    (not_from_false (eqb (digit_glyph false (n % 10)) byte) (glyph_other byte (n % 10) small)) none)
    (λ m more. digits_onto-no byte k m more small)
  where
    go : (b : Bool) → HasNo byte (digit_glyph false (n % 10) ∷ acc) → ((m : ℕ) (acc : List ℕ) → HasNo byte acc → HasNo byte (digits_onto k 10 false m acc))
        → HasNo byte (cond b (digit_glyph false (n % 10) ∷ acc) (digits_onto k 10 false (n / 10) (digit_glyph false (n % 10) ∷ acc)))
    go true more rest = more
    go false more rest = rest (n / 10) (digit_glyph false (n % 10) ∷ acc) more

-- a decimal has no byte below its digits'
pub decimal-no : (byte n : ℕ) → byte < 48 → HasNo byte (decimal n)
unfolding digits
decimal-no byte n small = digits_onto-no byte 64 n [] small (All-nil (λ b. not (eqb b byte) ≡ true))

-- two numbers with the same digits are one
pub one_decimal : (m n : ℕ) → m ≤ 65535 → n ≤ 65535 → decimal m ≡ decimal n → m ≡ n
one_decimal m n p q e =
    sym (decimal_is_IsNumeral m (omega arith)).1 ∙ ap (digits_value 10) e ∙ (decimal_is_IsNumeral n (omega arith)).1
