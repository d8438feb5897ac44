use Rattle.move_strings.specs.Automata.{IsState}
use Rattle.test_parts.proofs.walks.read.Given as goal

-- the state that is reached is one of the automaton
abbrev pub invariant-loop-count : goal.invariant-loop-count
invariant-loop-count l = IsState l.automaton.steps l.state
