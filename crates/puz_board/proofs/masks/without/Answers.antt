use Rattle.std.specs.Int.{w32}
use Rattle.std.proofs.lemmas.Nat.Bits.{bit_at_clear_same, bit_at_clear_other}
use Rattle.puz_board.proofs.masks.without.Goals as goal

-- the mask without a number hasn't this number
pub returns-clause-here : goal.returns-clause-here
returns-clause-here c = bit_at_clear_same w32 c.args.mask c.args.number c.requires

-- taking a number out changes no other bit of the mask
pub returns-clause-others : goal.returns-clause-others
returns-clause-others c x below ne = bit_at_clear_other w32 c.args.mask c.args.number c.requires x below ne
