use Rattle.pdb_request.specs.declared.requests.LogClaim.TheVariants.{Bound, Optimum}
use Rattle.pdb_run.specs.Answers.{all_bytes}
use Rattle.pdb_verdict.proofs.checks.verify_by.Goals as goal

-- where the text for a bound is a board, the answer over the bundle is the one to the inputs
pub returns-in_ok-start-in-Bound : goal.returns-in_ok-start-in-Bound
returns-in_ok-start-in-Bound g c =
    let is = c.in-Bound in
    rw is.is (c.answer_over.ensures is.goal Bound is.fold is.board.now is.sets.now (all_bytes is.tables.now)
    (rw c.begin_claim.ensures at c.in_ok-start-in-Bound.was) (c.bundle_of-bundle.ensures _ _ c.parts_of.ensures))

-- where the text for an optimum is a solved puzzle, the answer over the bundle is the one to the inputs
pub returns-in_ok-start-in-Optimal : goal.returns-in_ok-start-in-Optimal
returns-in_ok-start-in-Optimal g c =
    let is = c.in-Optimal in
    rw is.is (c.answer_over-in-Optimal.ensures is.goal Optimum is.fold is.puzzle.now is.sets.now (all_bytes is.tables.now)
    (rw c.begin_claim-in-Optimal.ensures at c.in_ok-start-in-Optimal.was)
    (c.bundle_of-bundle-in-Optimal.ensures _ _ c.parts_of-in-Optimal.ensures))
