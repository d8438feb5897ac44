use Rattle.pat_place.proofs.SlideLemmas.{MovesOneTile-slid}
use Rattle.pat_place.proofs.board_laws.each_tile_moves_alone.Goals as goal

-- a step of the blank to a tile of the pattern moves this tile alone, into the blank's cell
pub returns : goal.returns
returns c = MovesOneTile-slid
