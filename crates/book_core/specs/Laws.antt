-- The law of a book, which holds after every list of events.
use Rattle.std.specs.Prelude.{◌≡◌, ℕ, ◌+◌, ◌<◌, ◌^◌, true, slice_get, Some, min}
use Rattle.book_core.specs.Passes.{Deeds}
use Rattle.book_core.specs.Books.{Book, ended_count}
use Rattle.book_core.specs.Jobs.{times_drawn, drawn_count, once_below}
use Rattle.book_core.specs.Places.{IsReported, IsLeast, IsAtMost}

-- what holds of a book after any events from its start
pub record BookLaw (b : Book) : Type 0 where
  -- the drawn jobs are the numbers below the smaller of next and jobs, each once
  pub once : (job : ℕ) → times_drawn job b.passes ≡ once_below job (min b.next b.jobs)
  pub drawn : drawn_count b.passes ≡ min b.next b.jobs
  -- each claim drew a job or ended a pass
  pub total : b.next ≡ drawn_count b.passes + ended_count b.passes
  pub least : IsLeast b.least b.passes
  -- places are below 2 ^ 32
  pub small : (place : ℕ) → IsReported b.passes place → place < 2 ^ 32
  -- what a pass has seen isn't below the least place
  pub seen : (w : ℕ) (p : Deeds) → slice_get b.passes w ≡ Some p → IsAtMost b.least p.seen
  -- a pass has ended only where there were more claims than jobs
  pub past : (w : ℕ) (p : Deeds) → slice_get b.passes w ≡ Some p → p.ended ≡ true → b.jobs < b.next

-- each job was drawn, once
abbrev pub IsAllDrawn : Book → Type 0
IsAllDrawn b = (job : ℕ) → times_drawn job b.passes ≡ once_below job b.jobs
