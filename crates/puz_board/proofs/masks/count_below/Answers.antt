use Rattle.std.proofs.Common.{◌≡◌, ◌^◌, ◌%◌, bit_and, ◌∙◌, ap, arith}
use Rattle.std.specs.Prelude.{count_ones}
use Rattle.std.proofs.lemmas.Nat.{and_mask, ones-le, mod_below, pow_pos}
use Rattle.puz_board.specs.Masks.{ones_below}
use Rattle.puz_board.proofs.masks.count_below.Goals as goal

-- the set bits of a mask cut off at a number are as many as its bits set below the number
pub returns-clause-count : goal.returns-clause-count
returns-clause-count c = ap count_ones (ap (bit_and c.args.mask) c.all_below.ensures ∙ and_mask c.args.mask c.args.number)

-- below a number, no more bits are set than there are numbers
pub returns-clause-few : goal.returns-clause-few
returns-clause-few c =
    let counted : count_ones (bit_and c.args.mask c.all_below.result) ≡ ones_below c.args.mask c.args.number = returns-clause-count c in
    let few = ones-le c.args.number (c.args.mask % 2 ^ c.args.number) (mod_below c.args.mask (2 ^ c.args.number) (pow_pos c.args.number)) in
    omega arith
