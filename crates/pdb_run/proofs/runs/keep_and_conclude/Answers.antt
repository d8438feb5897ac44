use Rattle.std.proofs.Common.{◌≡◌, ◌∙◌, rules}
use Rattle.pdb_run.specs.declared.answers.Unanswered.TheVariants.{Memory, Wrong}
use Rattle.pdb_run.specs.Runs.{unkept}
use Rattle.pdb_run.proofs.AnswerLemmas.{begun_trying, ends_answered, ends_so, trial_wanting, trial_wrong}
use Rattle.pdb_run.proofs.runs.keep_and_conclude.Goals as goal

-- what was made is kept after a yes, and saying the answer then ends the run
pub returns-in-Ok-keep_made-clause-ends : goal.returns-in-Ok-keep_made-clause-ends
returns-in-Ok-keep_made-clause-ends g c = λ inputs old are by.
    let right = rw c.in-Ok.is at by in
    let kept = c.in-Ok-keep_made.ensures.kept in
    let said = c.say_answer.ensures.said in
    ends_answered (begun_trying c.requires are) right.1 right.2 said (rw c.requires kept.files) (rw c.requires kept.calls)
    kept.failed kept.reader kept.written

-- where what was made can't be kept, saying so ends the run
pub returns-in-Err-clause-ends : goal.returns-in-Err-clause-ends
returns-in-Err-clause-ends g c = λ inputs old are by.
    let right = rw c.in-Ok.is at by in
    let made = c.in-Err.ensures.made in
    let failed = c.in-Err.ensures.failed in
    let begun = begun_trying {plan = g.C.Command.plan c.args.command.now} c.requires are in
    ends_so (unkept _ _) c.say_unkept.ensures.said record {
      under = c.requires;
      inputs = inputs;
      reply = right.0;
      right = (begun.read, right.1);
      file = made.0;
      is_kept = rw (← right.2.made, ← right.2.is_yes) made.1;
      has_failed = failed.has_failed;
    } (inputs, begun.read, begun.free) (rw (← begun.files) failed.files) (rw (← begun.calls) failed.calls) tt (rw failed.reader begun.behind)
    (failed.written ∙ begun.written)

-- where the maker wants memory, saying so ends the run and nothing is kept
pub returns-in-Err-Memory-clause-ends : goal.returns-in-Err-Memory-clause-ends
returns-in-Err-Memory-clause-ends g c = λ inputs old are by.
    let why : c.in-Err-Memory.field-0 ≡ Memory = search (rules, c.in-Err-Memory.field-0-is) in
    trial_wanting {plan = g.C.Command.plan c.args.command.now} c.requires are (rw why at (rw c.in-Err-Memory.is at by)) c.say_no_memory.ensures.said

-- where something was made wrong, saying so ends the run and nothing is kept
pub returns-in-Err-Wrong-clause-ends : goal.returns-in-Err-Wrong-clause-ends
returns-in-Err-Wrong-clause-ends g c = λ inputs old are by.
    let why : c.in-Err-Wrong.field-0 ≡ Wrong = search (rules, c.in-Err-Wrong.field-0-is) in
    trial_wrong {plan = g.C.Command.plan c.args.command.now} c.requires are (rw why at (rw c.in-Err-Wrong.is at by)) c.say_made_wrong.ensures.said
