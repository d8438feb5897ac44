use Rattle.pdb_prove.proofs.TellingLemmas.{cut_told}
use Rattle.pdb_prove.proofs.runs.answer_over_tables.Goals as goal

-- the claims have their starts over the sets of the bundle
pub answer_all-requires-clause-over : goal.answer_all-requires-clause-over
answer_all-requires-clause-over g c _ _ = rw c.over_tables-help.ensures.sets c.requires.over

-- words are wanted only where they may be
pub returns-clause-goes_on : goal.returns-clause-goes_on
returns-clause-goes_on g c = λ no. c.answer_all.ensures.goes_on (c.over_tables-help.ensures.goes_on no)

-- where they are, there is all memory for them
pub returns-clause-wanted : goal.returns-clause-wanted
returns-clause-wanted g c = rw (← c.over_tables-help.ensures.sets) c.in_ok-answer_all.ensures.wanted

-- the automaton of strings is of the bundle's side
pub returns-clause-strings : goal.returns-clause-strings
returns-clause-strings g c = rw (c.answer_all.ensures.sets, c.over_tables-help.ensures.sets) at c.answer_all.new.help.same_side

-- the claims so far are told
pub returns-clause-told : goal.returns-clause-told
returns-clause-told g c = λ begun told.
    let next = rw c.over_tables-help.ensures.sets at c.in_ok-answer_all.ensures.told in next begun told

-- or the lines were cut
pub returns-in_err-answer_all-clause-told : goal.returns-in_err-answer_all-clause-told
returns-in_err-answer_all-clause-told g c = λ begun told.
    let next = rw c.over_tables-help.ensures.sets at c.in_err-answer_all.ensures.told in
    cut_told _ _ c.from_residual.result c.from_residual.ensures.0 (next begun told)
