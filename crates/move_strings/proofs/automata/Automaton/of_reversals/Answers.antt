use Rattle.std.proofs.Common.{◌≡◌, ◌↔◌, true, sym, subst}
use Rattle.move_strings.specs.Automata.{IsAutomaton, refuses}
use Rattle.move_strings.specs.Strings.{HasReversal}
use Rattle.move_strings.proofs.ReversalLemmas.{IsAutomaton-reversals, refused-reversal}
use Rattle.move_strings.proofs.automata.Automaton.of_reversals.Goals as goal

-- the table of reversals is that of an automaton for the given side
pub invariant_of-result : goal.invariant_of-result
invariant_of-result c = subst (λ steps. IsAutomaton (record { side = c.args.side; steps = steps })) (sym c.in_ok-steps.ensures.items)
    (IsAutomaton-reversals c.args.side)

-- the automaton that is made refuses exactly the moves that take one straight back
pub returns-clause-refused : goal.returns-clause-refused
returns-clause-refused c moves = subst (λ steps. (refuses steps 0 moves ≡ true) ↔ HasReversal moves) (sym c.in_ok-steps.ensures.items) (refused-reversal moves)
