use Rattle.pat_place.proofs.BoardOf.{board_of}
use Rattle.pat_place.proofs.board_laws.each_placement_is_of_a_board.Goals as goal

-- each placement with one of its free cells is that of a board whose blank is there
pub returns : goal.returns
returns c = board_of
