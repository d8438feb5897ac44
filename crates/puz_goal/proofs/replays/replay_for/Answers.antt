use Rattle.std.proofs.Common.{◌≡◌, ◌∙◌, ℕ, Result, Ok, Err, IfOk, refl, sym}
use Rattle.puz_board.specs.declared.replays.MoveFault.{MoveFault}
use Rattle.puz_board.proofs.SolutionLemmas.{replay_of-solved, solved-replay_of}
use Rattle.puz_goal.specs.Goals.{SolvesFor}
use Rattle.puz_goal.specs.Turning.{board_for, moves_for}
use Rattle.puz_goal.proofs.SolvingLemmas.{boards_turn, solved_for, solves_for}
use Rattle.puz_goal.proofs.replays.replay_for.Goals as goal

-- what holds of each count that is answered
ok_of : (P : ℕ → Type 0) (r : Result ℕ MoveFault) → ((n : ℕ) → r ≡ Ok n → P n) → IfOk r P
ok_of P (Ok n) holds = holds n refl
ok_of P (Err e) holds = tt

-- a count comes of a moves text that solves the board for the goal in so many moves
pub returns-clause-ok : goal.returns-clause-ok
returns-clause-ok c =
    let goal = c.args.goal in
    let board = c.args.board.now in
    let text = c.args.text.now in
    let good = c.side-side.ensures.board in
    let turned = (boards_turn goal board good).board in
    ok_of (λ n. SolvesFor goal board text n) c.replay_turned.result
    (λ n e. solved_for goal board text n good (solved-replay_of (board_for goal board) (moves_for goal text) n turned (sym c.replay_turned.ensures ∙ e)))

-- where a moves text solves the board for the goal in so many moves, their count is answered
pub returns-clause-solved : goal.returns-clause-solved
returns-clause-solved c n solved =
    let goal = c.args.goal in
    let board = c.args.board.now in
    let text = c.args.text.now in
    let good = c.side-side.ensures.board in
    let turned = (boards_turn goal board good).board in
    c.replay_turned.ensures ∙ replay_of-solved (board_for goal board) (moves_for goal text) n turned (solves_for goal board text n good solved)
