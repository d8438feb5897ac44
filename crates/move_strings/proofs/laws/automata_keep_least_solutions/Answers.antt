use Rattle.move_strings.proofs.LeastLemmas.{least-kept}
use Rattle.move_strings.proofs.laws.automata_keep_least_solutions.Goals as goal

-- an automaton for boards of a side refuses none of their least solutions
pub returns : goal.returns
returns c a is b good r moves least = least-kept a is b good r moves least
