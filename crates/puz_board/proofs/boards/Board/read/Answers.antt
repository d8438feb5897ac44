use Rattle.std.proofs.Common.{sym, ◌∙◌}
use Rattle.puz_board.specs.BoardTexts.{Spells}
use Rattle.puz_board.proofs.RefusalLemmas.{IfOk-from}
use Rattle.puz_board.proofs.SpellingLemmas.{board_of_text-spelled, spelled-board_of_text}
use Rattle.puz_board.proofs.boards.Board.read.Goals as goal

-- a board that is read from a text is one that the text spells
pub returns-clause-ok : goal.returns-clause-ok
returns-clause-ok c = IfOk-from c.read_text.result (λ xs. Spells c.args.text.now xs)
    (λ xs e. spelled-board_of_text c.args.text.now xs (sym c.read_text.ensures ∙ e))

-- where a text spells a board, this board is read from it
pub returns-clause-spelled : goal.returns-clause-spelled
returns-clause-spelled c xs spelled = c.read_text.ensures ∙ board_of_text-spelled c.args.text.now xs spelled
