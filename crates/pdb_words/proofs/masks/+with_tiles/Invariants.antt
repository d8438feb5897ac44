use Rattle.std.proofs.Common.{length}
use Rattle.pdb_words.proofs.masks.+with_tiles.Given as goal

-- how much of the text of tiles is left gets less with each comma
abbrev pub decreases-with_tiles : goal.decreases-with_tiles
decreases-with_tiles l = length l.text.now
