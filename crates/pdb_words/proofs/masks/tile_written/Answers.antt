use Rattle.std.proofs.Common.{arith}
use Rattle.pdb_words.proofs.MaskLemmas.{other_length_written}
use Rattle.pdb_words.proofs.masks.tile_written.Goals as goal

-- for a text that hasn't one byte or two no tile is answered, as it writes none
pub returns-in_default-clause-written : goal.returns-in_default-clause-written
returns-in_default-clause-written c = grind (arith, other_length_written c.args.text.now, c.as_bytes-digits.ensures.value)
