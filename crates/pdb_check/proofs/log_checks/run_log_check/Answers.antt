use Rattle.std.proofs.Common.{◌≡◌}
use Rattle.pdb_request.specs.Asked.{log_check_shown}
use Rattle.pdb_run.specs.Answers.{all_bytes}
use Rattle.pdb_verdict.specs.Inputs.{log_claim}
use Rattle.pdb_verdict.specs.Steps.{files_read}
use Rattle.pdb_check.specs.Plans.{log_given}
use Rattle.pdb_check.proofs.CheckLemmas.{check_answered}
use Rattle.pdb_check.proofs.log_checks.run_log_check.Goals as goal

-- a run that checks a log ends as its plan says, with the answer to its inputs
pub returns-clause-ends : goal.returns-clause-ends
returns-clause-ends g c =
    let check = c.args.check.now in
    let read = c.with_bytes-read in
    let same : log_claim read.result.claim (files_read read.result) ≡ log_given check.claim (log_check_shown check) (files_read read.result) =
    λ i. log_claim (read.ensures.claim i) (record (files_read read.result) { fold = read.ensures.fold i; goal = read.ensures.goal i }) in
    c.conclude.ensures.ends (all_bytes c.in-Ok.inputs.items) _ c.in-Ok.ensures.read
    (check_answered (log_given check.claim (log_check_shown check)) (files_read read.result) _ c.answer_log_check-answered.result.answer
    read.ensures.inputs _ same c.answer_log_check-answered.ensures)
