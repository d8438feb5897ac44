-- What a board that was reached waits for.
use Rattle.log_check.specs.Walks.{Waiting}
use Rattle.log_check.specs.declared.walks.PendingBoard.{PendingBoard}

-- the board, with the move by which it was reached and its bound
abbrev pub waiting_of : PendingBoard → Waiting
waiting_of r = record { board = r.sums.board; arriving = r.arriving; bound = r.bound }
