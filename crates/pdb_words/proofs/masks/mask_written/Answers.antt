use Rattle.std.proofs.Common.{arith}
use Rattle.pdb_words.proofs.MaskLemmas.{tiles_read}
use Rattle.pdb_words.proofs.masks.mask_written.Goals as goal

-- a word that begins with the sign of tiles writes the mask of these tiles
pub returns-in-Some : goal.returns-in-Some
returns-in-Some c = grind (arith, tiles_read)
