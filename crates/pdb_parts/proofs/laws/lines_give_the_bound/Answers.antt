use Rattle.pdb_parts.proofs.LawLemmas.{lines_give}
use Rattle.pdb_parts.proofs.laws.lines_give_the_bound.Goals as goal

-- true lines that say of each part of a bound that it holds give the bound
pub returns : goal.returns
returns c = lines_give
