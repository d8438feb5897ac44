use Rattle.puz_board.proofs.TransposeLemmas.{least_costs, nevers}
use Rattle.puz_board.proofs.laws.transposing_keeps_least_costs.Goals as goal

-- the least cost of transposed tiles on a board is that of the tiles on the transposed board
pub returns : goal.returns
returns c n tiles b good all = (least_costs n tiles all b good, nevers n tiles all b good)
