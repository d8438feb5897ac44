use Rattle.move_strings.proofs.LeastLemmas.{least-no_forbidden}
use Rattle.move_strings.proofs.laws.least_solutions_have_no_forbidden_string.Goals as goal

-- no forbidden string is in a least solution of a board
pub returns : goal.returns
returns c n b good r moves is has = least-no_forbidden n b good r moves is has
