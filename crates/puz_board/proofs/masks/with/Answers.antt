use Rattle.std.specs.Int.{w32}
use Rattle.std.proofs.lemmas.Nat.Bits.{bit_at_set_same, bit_at_set_other}
use Rattle.puz_board.proofs.masks.with.Goals as goal

-- the mask with a number more has this number
pub returns-clause-here : goal.returns-clause-here
returns-clause-here c = bit_at_set_same w32 c.args.mask c.args.number c.requires

-- a number more changes no other bit of the mask
pub returns-clause-others : goal.returns-clause-others
returns-clause-others c x ne = bit_at_set_other w32 c.args.mask c.args.number c.requires x ne
