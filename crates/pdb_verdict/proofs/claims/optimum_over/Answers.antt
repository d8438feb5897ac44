use Rattle.std.proofs.Common.{◌≡◌, ◌∙◌, Err, Ok, ap, inl, rules}
use Rattle.puz_goal.specs.Turning.{board_for}
use Rattle.pdb_verdict.specs.Inputs.{log_files}
use Rattle.pdb_verdict.specs.Replay.{puzzle_of, solved_by}
use Rattle.pdb_verdict.specs.Steps.{of_log}
use Rattle.pdb_verdict.specs.declared.verdicts.Fault.{Fault}
use Rattle.pdb_verdict.proofs.BoundLemmas.{bound_found, log_found}
use Rattle.pdb_verdict.proofs.ClaimLemmas.{optimum_by}
use Rattle.pdb_verdict.proofs.ReplayLemmas.{joined-parts}
use Rattle.pdb_verdict.proofs.claims.optimum_over.Goals as goal

-- moves that don't solve the board refuse the optimum, with the fault of the moves
pub returns-in_err-solution : goal.returns-in_err-solution
returns-in_err-solution g c = λ fold text sets tables spelt is_bundle.
    let said = c.args.said in
    let why = c.in_err-solution.field-0.0 in
    let refused : c.from_residual.result ≡ Err (Fault.Moves why) = search (rules, c.from_residual.ensures) in
    let replayed = rw c.replay_for.ensures.exact at c.in_err-solution.was in
    rw refused (inl (joined-parts said.goal text said.moves.now said.board.now spelt ∙ ap (solved_by (board_for said.goal said.board.now)) replayed))

-- a log that proves no bound refuses the optimum, with the fault of the log
pub returns-in_err-check_log_by : goal.returns-in_err-check_log_by
returns-in_err-check_log_by g c = λ fold text sets tables spelt is_bundle.
    let goal = c.args.said.goal in
    let board = board_for goal c.args.said.board.now in
    let moves = c.args.said.moves.now in
    let why = c.in_err-check_log_by.field-0.0 in
    let found = log_found fold tables sets board c.args.log.now c.args.bundle.now is_bundle why (rw c.board_for-board.ensures.value at c.in_err-check_log_by.ensures.fault) in
    let refused : c.from_residual-in_err-check_log_by.result ≡ Err (of_log why) = search (rules, c.from_residual-in_err-check_log_by.ensures) in
    let parts = joined-parts goal text moves c.args.said.board.now spelt ∙ ap (solved_by board) (rw c.replay_for.ensures.exact at c.in_ok-solution.was) in
    rw refused (optimum_by (log_files goal fold (puzzle_of text moves) sets c.args.log.now tables) board c.in_ok-solution.solution parts (Err (of_log why)) found)

-- where the moves solve the board and a log bounds it, the optimum is the one for both
pub returns : goal.returns
returns g c = λ fold text sets tables spelt is_bundle.
    let goal = c.args.said.goal in
    let board = board_for goal c.args.said.board.now in
    let moves = c.args.said.moves.now in
    let bound = c.in_ok-check_log_by.field-0 in
    let found = bound_found fold tables sets board c.args.log.now c.args.bundle.now is_bundle bound (rw c.board_for-board.ensures.value at c.in_ok-check_log_by.ensures.ok) in
    let parts = joined-parts goal text moves c.args.said.board.now spelt ∙ ap (solved_by board) (rw c.replay_for.ensures.exact at c.in_ok-solution.was) in
    rw c.optimum_of.ensures (optimum_by (log_files goal fold (puzzle_of text moves) sets c.args.log.now tables) board c.in_ok-solution.solution parts
    (Ok bound) found)
