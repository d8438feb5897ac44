use Rattle.std.proofs.Common.{Ok, refl, rules}
use Rattle.pdb_verdict.specs.Replay.{IsReplayTold}
use Rattle.pdb_verdict.specs.declared.verdicts.Verdict.{Verdict}
use Rattle.pdb_verdict.proofs.ReplayLemmas.{refused_told, says_solution, solved-parts}
use Rattle.pdb_verdict.proofs.replay.verify_puzzle.Goals as goal

-- where a puzzle text is refused, there is no verdict, and its moves don't solve its board
pub returns-in_err-_board-clause-solved : goal.returns-in_err-_board-clause-solved
returns-in_err-_board-clause-solved c =
    let told : IsReplayTold c.args.goal c.args.puzzle.now c.from_residual.result = search (rules, refused_told, c.from_residual.ensures) in
    says_solution c.args.goal c.args.puzzle.now _ told

-- where the moves of a puzzle text solve its board, their count is the verdict
pub returns : goal.returns
returns c =
    let is = rw c.solved_board.ensures at c.in_ok-_board.was in
    let n = c.in_ok-_board.count in
    let told : IsReplayTold c.args.goal c.args.puzzle.now (Ok (Verdict.Solution n)) =
    (Ok n, (solved-parts c.args.goal c.args.puzzle.now c.in_ok-_board._board n is).0, refl) in
    record { solved = says_solution c.args.goal c.args.puzzle.now _ told; exact = told }
