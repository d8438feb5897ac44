use Rattle.std.proofs.Common.{[], refl}
use Rattle.pdb_run.specs.Answers.{all_bytes}
use Rattle.pdb_check.proofs.CheckLemmas.{only_input}
use Rattle.pdb_check.proofs.replay.run_replay.Goals as goal

-- a run of replay ends as its plan says, with the verdict on the puzzle text
pub returns-clause-ends : goal.returns-clause-ends
returns-clause-ends g c =
    let puzzle = c.as_slice.result.now in
    let are = only_input c.in-Ok.inputs.items _ puzzle c.in-Ok.ensures.count (c.index.ensures) c.as_slice.ensures.value in
    let answer = c.verify_puzzle-answer.result in
    c.conclude.ensures.ends (all_bytes c.in-Ok.inputs.items) _ c.in-Ok.ensures.read
    (_, (puzzle, are, record { answer = answer; is_result = c.verify_puzzle-answer.ensures.exact; told = refl }), c.told_for.ensures [] refl)
