use Rattle.pat_place.proofs.TransposedLemmas.{IsTurned}
use Rattle.pat_place.proofs.patterns.Pattern.transposed.Given as goal

-- the tiles before this one are in the mask where their transposed ones are in the pattern's
abbrev pub invariant-loop-tile : goal.invariant-loop-tile
invariant-loop-tile l = IsTurned l.side l.self-inside.mask l.tile l.mask
