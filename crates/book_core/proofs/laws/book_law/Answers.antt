use Rattle.book_core.proofs.LawLemmas.{BookLaw-all_drawn}
use Rattle.book_core.proofs.RunLemmas.{BookLaw-after, sizes-after}
use Rattle.book_core.specs.Runs.{run_after}
use Rattle.book_core.proofs.laws.book_law.Goals as goal

-- after any events a book meets the law, an ended pass means that all jobs were drawn, and the sizes are as at first
pub returns : goal.returns
returns c = record {
  law = BookLaw-after;
  all_drawn = λ jobs workers events. BookLaw-all_drawn (run_after jobs workers events).book (BookLaw-after jobs workers events);
  sizes = sizes-after;
}
