use Rattle.std.proofs.Common.{map, sym, ◌∙◌, ap, subst}
use Rattle.move_strings.specs.Automata.{IsAutomaton}
use Rattle.move_strings.specs.Drafts.{number_of}
use Rattle.move_strings.proofs.AutomatonLemmas.{IsAutomaton-right}
use Rattle.move_strings.proofs.automata.Automaton.check.Goals as goal

-- the table of a draft that is right is that of an automaton
pub invariant_of-result : goal.invariant_of-result
invariant_of-result c =
    subst (λ steps. IsAutomaton (record { side = c.args.side; steps = steps })) (sym (c.in_ok-steps.ensures ∙ ap (map number_of) c.as_slice.ensures.value))
    (IsAutomaton-right c.args.side c.args.draft.now (c.is_right.ensures.0 c.if-not-is_right.false))
