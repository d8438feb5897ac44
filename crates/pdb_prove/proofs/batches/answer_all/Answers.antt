use Rattle.std.proofs.Common.{◌∙◌, refl, sym}
use Rattle.pdb_prove.proofs.TellingLemmas.{cut_told, same_more, same_over}
use Rattle.pdb_prove.proofs.WordLemmas.{none_wanted, some_wanted}
use Rattle.pdb_prove.proofs.batches.answer_all.Goals as goal

-- at first nothing has changed
pub loop-asked-init : goal.loop-asked-init
loop-asked-init g c = record {
  same = record { claims = refl; starts = refl; reversals = refl; goal = refl; budget = refl };
  sets = refl;
  unprepared = c.requires.unprepared;
  goes_on = λ none. none;
  streams = refl;
  told = λ begun told. told;
}

-- the claims of the next batch have few letters, as all claims do
pub answer_batch-requires-clause-few : goal.answer_batch-requires-clause-few
answer_batch-requires-clause-few g c _ _ = rw c.loop-asked.invariant.same.claims c.requires.few

-- they have their starts, as all claims do
pub answer_batch-requires-clause-over : goal.answer_batch-requires-clause-over
answer_batch-requires-clause-over g c _ _ =
    rw c.loop-asked.invariant.sets (same_over _ _ _ c.loop-asked.invariant.same c.requires.over)

-- the claims of a batch are told behind those before it
pub loop-asked-preserved : goal.loop-asked-preserved
loop-asked-preserved g c =
    let far = c.loop-asked.invariant in
    let next = rw far.sets at c.in_ok-answer_batch.ensures.told in
    record {
      same = same_more _ _ _ far.same c.answer_batch.ensures.same;
      sets = c.answer_batch.ensures.sets ∙ far.sets;
      unprepared = none_wanted _ (sym c.is_some.ensures ∙ c.if-is_some.false);
      goes_on = λ none. (c.answer_batch.ensures.goes_on (far.goes_on none)).0;
      streams = c.answer_batch.ensures.same_streams ∙ far.streams;
      told = λ begun told. next begun (far.told begun told);
    }

-- where words are wanted, there is all memory for them
pub returns-then-is_some-clause-wanted : goal.returns-then-is_some-clause-wanted
returns-then-is_some-clause-wanted g c =
    rw (← c.loop-asked.invariant.sets) (some_wanted _ _ _ _ (sym c.is_some.ensures ∙ c.if-is_some.true) c.in_ok-answer_batch.ensures.wanted)

-- and the claims of the batch so far are told behind those before it
pub returns-then-is_some-clause-told : goal.returns-then-is_some-clause-told
returns-then-is_some-clause-told g c = λ begun told.
    let next = rw c.loop-asked.invariant.sets at c.in_ok-answer_batch.ensures.told in next begun (c.loop-asked.invariant.told begun told)

pub returns-then-is_some-clause-same : goal.returns-then-is_some-clause-same
returns-then-is_some-clause-same g c = same_more _ _ _ c.loop-asked.invariant.same c.answer_batch.ensures.same

-- where a batch is cut short, so are all claims
pub returns-in_err-answer_batch-clause-told : goal.returns-in_err-answer_batch-clause-told
returns-in_err-answer_batch-clause-told g c = λ begun told.
    let next = rw c.loop-asked.invariant.sets at c.in_err-answer_batch.ensures.told in
    cut_told _ _ c.from_residual.result c.from_residual.ensures.0 (next begun (c.loop-asked.invariant.told begun told))

pub returns-in_err-answer_batch-clause-same : goal.returns-in_err-answer_batch-clause-same
returns-in_err-answer_batch-clause-same g c = same_more _ _ _ c.loop-asked.invariant.same c.answer_batch.ensures.same
