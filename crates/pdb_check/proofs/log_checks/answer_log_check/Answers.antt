use Rattle.std.proofs.Common.{◌≡◌, Err, rules}
use Rattle.pdb_verdict.specs.Lines.{digested_of}
use Rattle.pdb_verdict.specs.Steps.{claim_read, files_read}
use Rattle.pdb_verdict.proofs.ClaimLemmas.{claim_refused}
use Rattle.pdb_check.proofs.CheckLemmas.{result_told}
use Rattle.pdb_check.proofs.log_checks.answer_log_check.Goals as goal

-- where the text of a claim is refused, this is answered with the digests, before the tables
pub returns-in-Err : goal.returns-in-Err
returns-in-Err g c =
    let files = files_read c.args.check.now in
    let inputs = claim_read c.args.check.now in
    let why = rw (c.begin_claim.ensures, c.as_slice.ensures.value) at c.in-Err.is in
    let same : c.digested_beside-digested.result.1 ≡ Err c.in-Err.refused = search (rules, c.digested_beside-digested.ensures.answer) in
    let lines = rw (c.as_slice-log.ensures.value, c.as_slice-tables.ensures.value) at c.digested_beside-digested.ensures.digested in
    result_told inputs _ c.told_or_memory_for-in-Err.result.answer (rw same (claim_refused files c.args.check.now.claim c.in-Err.refused why))
    (c.told_or_memory_for-in-Err.ensures.told (digested_of inputs) lines) c.told_or_memory_for-in-Err.ensures.memory

-- where the text of a claim has a board, the answer is that of its tables, sets and log
pub returns-in-Ok : goal.returns-in-Ok
returns-in-Ok g c =
    let files = files_read c.args.check.now in
    let inputs = claim_read c.args.check.now in
    let started = rw (c.begin_claim.ensures, c.as_slice.ensures.value) at c.in-Ok.is in
    let found = rw (c.as_slice-sets.ensures.value, c.as_slice-log.ensures.value, c.as_slice-kept.ensures.value, c.given_up-given.ensures.all) at c.over_tables-digested.ensures.found in
    let lines = rw (c.as_slice-log.ensures.value, c.as_slice-kept.ensures.value, c.given_up-given.ensures.all) at c.over_tables-digested.ensures.digested in
    result_told inputs _ c.told_or_memory_for.result.answer (found.2.1 c.args.check.now.goal c.args.check.now.claim c.args.check.now.fold files.text files.sets files.tables started found.1)
    (c.told_or_memory_for.ensures.told (digested_of inputs) lines) c.told_or_memory_for.ensures.memory
