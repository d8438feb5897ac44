use Rattle.pat_place.proofs.TransposedLemmas.{IsPattern-transposed}
use Rattle.pat_place.proofs.laws.transposed_patterns_are_patterns.Goals as goal

-- where rows and columns are exchanged, any pattern becomes a pattern
pub returns : goal.returns
returns c p pat = IsPattern-transposed p pat
