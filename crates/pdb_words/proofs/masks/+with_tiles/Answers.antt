use Rattle.std.proofs.Common.{arith}
use Rattle.pdb_words.proofs.MaskLemmas.{first_tile, last_tile}
use Rattle.pdb_words.proofs.masks.+with_tiles.Goals as goal

-- where no comma is left, the last tile is added to the mask
pub returns-in-None : goal.returns-in-None
returns-in-None t c = grind (arith, last_tile c.args.mask c.args.text.now, c.in-None.ensures.byte)

-- where what stands before the first comma can't be added, there is no mask
pub returns-in_err-with_named-in-Some : goal.returns-in_err-with_named-in-Some
returns-in_err-with_named-in-Some t c = grind
    (arith, first_tile c.args.mask c.args.text.now c.in-Some.first.now c.in-Some.rest.now, c.in-Some.ensures.byte)

-- where what stands before the first comma is added, the mask goes on with those behind it
pub returns-in_ok-with_named-in-Some : goal.returns-in_ok-with_named-in-Some
returns-in_ok-with_named-in-Some t c = grind
    (arith, first_tile c.args.mask c.args.text.now c.in-Some.first.now c.in-Some.rest.now, c.in-Some.ensures.byte)
