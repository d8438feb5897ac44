use Rattle.std.proofs.Common.{sym}
use Rattle.std.proofs.lemmas.Result.{err_from_is_err_and}
use Rattle.puz_board.proofs.SpellingLemmas.{spelled-board_of_text}
use Rattle.pdb_parts.proofs.noting.note.Goals as goal

-- memory may be wanted where the board text isn't refused
pub returns-in_err-told : goal.returns-in_err-told
returns-in_err-told c = λ arguments board names answers is.
    let noted = rw c.in_ok-asked.was at is in
    let why = err_from_is_err_and c.from_residual-in_err-told.result c.from_residual-in_err-told.ensures.1 in
    rw (why.1, why.2) (_, spelled-board_of_text board _ (sym noted.board))

-- else the file is noted
pub returns : goal.returns
returns c = λ arguments board names answers is.
    let noted = rw c.in_ok-asked.was at is in
    record { parts = noted.parts; board = noted.board; asked = noted.asked; told = c.in_ok-told.ensures names answers noted.told }
