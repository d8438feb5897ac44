use Rattle.std.proofs.Common.{sym, ◌∙◌}
use Rattle.puz_board.specs.MovesTexts.{Solves}
use Rattle.puz_board.proofs.RefusalLemmas.{IfOk-from}
use Rattle.puz_board.proofs.SolutionLemmas.{replay_of-solved, solved-replay_of}
use Rattle.puz_board.proofs.replays.replay.Goals as goal

-- a count of moves comes of a moves text that solves the board in so many moves
pub returns-clause-ok : goal.returns-clause-ok
returns-clause-ok c =
    IfOk-from c.replay_text.result (λ n. Solves c.args.board.now c.args.text.now n)
    (λ n e. solved-replay_of c.args.board.now c.args.text.now n c.side-side.ensures.board (sym c.replay_text.ensures ∙ e))

-- where a moves text solves the board in so many moves, their count is answered
pub returns-clause-solved : goal.returns-clause-solved
returns-clause-solved c n solved = c.replay_text.ensures ∙ replay_of-solved c.args.board.now c.args.text.now n c.side-side.ensures.board solved
