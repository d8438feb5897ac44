use Rattle.claim_laws.proofs.SolutionLemmas.{takes_nothing_back}
use Rattle.claim_laws.proofs.laws.shortest_solutions_take_nothing_back.Goals as goal

-- no move of a shortest solution takes back the one before it
pub returns : goal.returns
returns c = takes_nothing_back
