use Rattle.std.proofs.Common.{◌≡◌, ◌+◌, ◌-◌, ◌^◌, inl, inr, ◌∙◌, ap, arith}
use Rattle.std.specs.Int.{bit_at, w32}
use Rattle.std.proofs.lemmas.Bool.{cases_lt}
use Rattle.std.proofs.lemmas.Nat.Bits.{bit_at-lt, bit_at_and, bit_at_not, bit_at_above, bit_at_ones, bit_at_ones_above}
use Rattle.puz_board.proofs.masks.above.Goals as goal

-- above the number, the mask that is answered has the bits of the given one
pub returns-clause-above : goal.returns-clause-above
returns-clause-above c x above =
    let both = bit_at_and c.args.mask (2 ^ 32 - 1 - c.all_below.result) x in
    let bit = bit_at-lt c.args.mask x in
    elim (cases_lt x 32) [
      | inl l ↦
          let e : bit_at (2 ^ 32 - 1 - c.all_below.result) x ≡ 1 - bit_at c.all_below.result x = bit_at_not w32 c.all_below.result x c.all_below.type_inv l in
          let none : bit_at c.all_below.result x ≡ 0 = ap (λ m. bit_at m x) c.all_below.ensures ∙ bit_at_ones_above (c.args.number + 1) x (omega arith) in
          omega arith
      | inr l ↦ let none = bit_at_above c.args.mask 32 x c.ranges.mask.fits l in omega arith
    ]

-- up to the number, the mask that is answered has no bit set
pub returns-clause-upto : goal.returns-clause-upto
returns-clause-upto c x upto =
    let both = bit_at_and c.args.mask (2 ^ 32 - 1 - c.all_below.result) x in
    let e : bit_at (2 ^ 32 - 1 - c.all_below.result) x ≡ 1 - bit_at c.all_below.result x =
    bit_at_not w32 c.all_below.result x c.all_below.type_inv (let l = c.requires in omega arith) in
    let one : bit_at c.all_below.result x ≡ 1 = ap (λ m. bit_at m x) c.all_below.ensures ∙ bit_at_ones (c.args.number + 1) x (omega arith) in
    omega arith
