use Rattle.std.proofs.Common.{[], ◌∷◌, refl}
use Rattle.pdb_run.specs.Answers.{all_bytes}
use Rattle.pdb_verdict.specs.Inputs.{table_file}
use Rattle.pdb_check.proofs.CheckLemmas.{check_answered, only_input, result_told}
use Rattle.pdb_check.proofs.table.run_table.Goals as goal

-- a run that checks a table ends as its plan says, with the answer to the table file
pub returns-clause-ends : goal.returns-clause-ends
returns-clause-ends g c =
    let table = c.as_slice-table.result.now in
    let are = only_input c.in-Ok.inputs.items _ table c.in-Ok.ensures.count (c.index.ensures) c.as_slice-table.ensures.value in
    let told = result_told (table_file table) c.digested_beside-digested.result.1 c.told_or_memory.result.answer c.digested_beside-digested.ensures.answer
    (c.told_or_memory.ensures.told (table ∷ []) c.digested_beside-digested.ensures.digested) c.told_or_memory.ensures.memory in
    c.conclude.ensures.ends (all_bytes c.in-Ok.inputs.items) _ c.in-Ok.ensures.read
    (check_answered table_file table _ c.told_or_memory.result.answer are _ refl told)
