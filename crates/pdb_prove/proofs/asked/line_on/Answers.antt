use Rattle.std.proofs.Common.{arith}
use Rattle.pdb_prove.proofs.LineLemmas.{few_letters}
use Rattle.pdb_prove.proofs.asked.line_on.Goals as goal

-- the letters of a shorter solution are few enough for a line
pub shorter_line-requires-clause-solution : goal.shorter_line-requires-clause-solution
shorter_line-requires-clause-solution c =
    omega (arith, few_letters c.as_slice-in_default-Shorter.result.now, c.as_slice-in_default-Shorter.ensures.fits)

-- the letters of a shortest solution are few enough for a line
pub optimal_line-requires-in_default-Shortest : goal.optimal_line-requires-in_default-Shortest
optimal_line-requires-in_default-Shortest c =
    omega (arith, few_letters c.as_slice-in_default-Shortest-2.result.now, c.as_slice-in_default-Shortest-2.ensures.fits)
