use Rattle.puz_board.proofs.TransposeLemmas.{IsBoardOf-transposed, transposed-twice}
use Rattle.puz_board.proofs.laws.transposing_is_its_own_inverse.Goals as goal

-- a board transposed is a board, and transposed again it is what it was
pub returns : goal.returns
returns c n b good = (IsBoardOf-transposed n b good, transposed-twice n b good)
