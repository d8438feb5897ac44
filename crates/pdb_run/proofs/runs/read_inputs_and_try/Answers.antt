use Rattle.std.proofs.Common.{◌∙◌, inl, inr}
use Rattle.pdb_run.specs.Runs.{spared, unseen, unwritable}
use Rattle.pdb_run.specs.Answers.{all_bytes}
use Rattle.pdb_run.proofs.AnswerLemmas.{ends_so, named_alone}
use Rattle.pdb_run.proofs.SpareLemmas.{looks_as, no_such_as, such_as}
use Rattle.pdb_run.proofs.runs.read_inputs_and_try.Goals as goal

-- where the file under the name is spared, saying so ends the run before anything is made
pub returns-then-is_spared-clause-ends : goal.returns-then-is_spared-clause-ends
returns-then-is_spared-clause-ends g c =
    let are = c.in_ok-inputs.ensures.read in
    let spares = rw (c.as_slice-2.ensures.value, c.in-Ok.ensures.all, ← c.requires.replaces, are.files) at (c.is_spared.ensures.spared c.if-is_spared.true) in
    ends_so (spared _) c.say_spared.ensures.said record { under = c.requires.under; inputs = _; read = are.read; spares = inl spares } tt
    are.files are.calls are.failed are.behind are.written

-- and so does it where a look at it tells that
pub returns-in-Ok-true-clause-ends : goal.returns-in-Ok-true-clause-ends
returns-in-Ok-true-clause-ends g c =
    let are = c.in_ok-inputs.ensures.read in
    let has = rw (c.as_slice-3.ensures.value, are.files) at (c.in-Ok-true.ensures.spared (search c.in-Ok-true.field-0-test)) in
    let such = such_as (c.requires.spares (all_bytes c.in_ok-inputs.inputs.items)) (g.I.Io.world c.args.io.now).files c.args.keeping.name.now has in
    ends_so (spared _) c.say_spared-in-Ok-true.ensures.said record { under = c.requires.under; inputs = _; read = are.read; spares = inr such } tt
    are.files are.calls are.failed are.behind are.written

-- where there isn't the memory to look at it, saying so ends the run
pub returns-in-Err-clause-ends : goal.returns-in-Err-clause-ends
returns-in-Err-clause-ends g c =
    let are = c.in_ok-inputs.ensures.read in
    let wants = rw (c.as_slice-3.ensures.value, are.files) at c.in-Err.ensures.unseen in
    let looks = looks_as (c.requires.spares (all_bytes c.in_ok-inputs.inputs.items)) (g.I.Io.world c.args.io.now).files c.args.keeping.name.now wants in
    ends_so (unseen c.args.keeping.name.now) c.say_no_memory-in-Err.ensures.said
    record { under = c.requires.under; inputs = _; read = are.read; looks = looks } tt
    are.files are.calls are.failed are.behind are.written

-- where nothing can be kept under the name, saying so ends the run before anything is made
pub returns-clause-ends : goal.returns-clause-ends
returns-clause-ends g c =
    let are = c.in_ok-inputs.ensures.read in
    let free = rw (c.as_slice-2.ensures.value, c.in-Ok.ensures.all, ← c.requires.replaces, are.files) at (c.is_spared.ensures.free c.if-is_spared.false) in
    let none = rw (c.as_slice-3.ensures.value, are.files) at (c.in-Ok-false.ensures.free (search c.in-Ok-false.field-0-test)) in
    let other = no_such_as (c.requires.spares (all_bytes c.in_ok-inputs.inputs.items)) (g.I.Io.world c.args.io.now).files c.args.keeping.name.now none in
    let failed = c.in-Err-try_keep.ensures.failed in
    ends_so (unwritable _ _) c.say_unkept.ensures.said
    record { under = c.requires.under; inputs = _; read = are.read; has_failed = failed.has_failed }
    (_, are.read, named_alone (g.C.Command.plan c.args.command.now) (g.I.Io.world c.args.io.now).files _ c.requires.under (free, other))
    (failed.files ∙ are.files) (rw (← are.calls) failed.calls) tt (rw failed.reader are.behind) (failed.written ∙ are.written)
