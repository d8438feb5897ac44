use Rattle.std.proofs.Common.{arith}
use Rattle.puz_board.proofs.BoardLemmas.{cells_least}
use Rattle.pat_place.proofs.SlideLemmas.{IsFree-blank}
use Rattle.pat_place.proofs.board_laws.blank_cells_are_free.Goals as goal

-- no tile of a pattern is in the cell of a board's blank
pub returns : goal.returns
returns c p pat b good = IsFree-blank p.side p.tiles pat.tiles b good (let l = cells_least p.side b good in omega arith)
