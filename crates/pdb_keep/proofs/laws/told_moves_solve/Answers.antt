use Rattle.pdb_keep.proofs.LetterLemmas.{told_solution}
use Rattle.pdb_keep.proofs.laws.told_moves_solve.Goals as goal

-- the moves that are told of a solution are a moves text that solves the board
pub returns : goal.returns
returns c = told_solution
