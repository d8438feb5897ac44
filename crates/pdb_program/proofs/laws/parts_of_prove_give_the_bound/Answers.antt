use Rattle.pdb_program.proofs.JoinLemmas.{parts_give}
use Rattle.pdb_program.proofs.laws.parts_of_prove_give_the_bound.Goals as goal

-- parts that runs of `prove` answered give the bound
pub returns : goal.returns
returns c = parts_give
