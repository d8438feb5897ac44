use Rattle.std.specs.Int.{w32}
use Rattle.std.proofs.lemmas.Nat.Bits.{bit_at-trailing_zeros}
use Rattle.puz_board.proofs.masks.first_of.Goals as goal

-- the count of zeros at the end of a mask is a number of the mask
pub returns-clause-here : goal.returns-clause-here
returns-clause-here c = (bit_at-trailing_zeros w32 c.args.mask c.requires c.ranges.mask.fits).1

-- no number below the count of zeros at the end of a mask is in the mask
pub returns-clause-lowest : goal.returns-clause-lowest
returns-clause-lowest c = (bit_at-trailing_zeros w32 c.args.mask c.requires c.ranges.mask.fits).2
