use Rattle.book_core.proofs.LawLemmas.{BookLaw-start}
use Rattle.book_core.proofs.cores.Core.start.Goals as goal

-- the book that is made of new passes, with nothing drawn or reported, meets the law
pub returns-clause-law : goal.returns-clause-law
returns-clause-law c = rw c.loop.invariant (BookLaw-start c.args.jobs c.loop.counter)
