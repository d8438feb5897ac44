use Rattle.std.proofs.Common.{◌%◌, ◌∙◌, ap₂}
use Rattle.puz_board.specs.Parity.{blank_parity, taxicab}
use Rattle.puz_board.proofs.boards.Board.blank_parity.Goals as goal

-- the parity by row and column of the blank's cell is that of its distance from cell 0
pub returns-clause-parity : goal.returns-clause-parity
unfolding blank_parity
returns-clause-parity c = ap₂ (λ n x. taxicab n x % 2) (c.get-n.ensures.value ∙ c.side.ensures.side) c.blank-cell.ensures.cell
