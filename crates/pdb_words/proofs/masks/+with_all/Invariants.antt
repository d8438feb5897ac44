use Rattle.std.proofs.Common.{◌-◌}
use Rattle.pdb_words.proofs.masks.+with_all.Given as goal

-- how far the first tile is below the last gets less with each
abbrev pub decreases-with_all : goal.decreases-with_all
decreases-with_all l = l.last - l.first
