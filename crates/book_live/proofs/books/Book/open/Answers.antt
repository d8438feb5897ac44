use Rattle.book_live.proofs.SeatMoves.{Shown-opening}
use Rattle.book_live.proofs.books.Book.open.Goals as goal

-- a table may be opened with no claim, no place and all passes in one seat, as that shows a reached book
pub of_words-requires : goal.of_words-requires
of_words-requires c = Shown-opening (record { jobs = c.args.jobs; workers = c.args.workers }) (c.requires.jobs, c.requires.workers.1)
