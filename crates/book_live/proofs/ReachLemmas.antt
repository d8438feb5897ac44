-- What holds of each book that the machine reaches.
use Rattle.std.proofs.Common.{◌≡◌, ◌+◌, ◌≤◌, [], ◌∷◌, ◌++◌, length, Ok, refl, sym, ◌∙◌, ap, subst, arith}
use Rattle.book_core.specs.declared.events.Event.{Event}
use Rattle.book_core.specs.declared.events.Answer.{Answer}
use Rattle.book_core.specs.Books.{Book, start}
use Rattle.book_core.specs.Steps.{step}
use Rattle.book_core.specs.Runs.{Run}
use Rattle.book_core.specs.Laws.{BookLaw}
use Rattle.book_core.proofs.LawLemmas.{BookLaw-next_le}
use Rattle.book_core.proofs.RunLemmas.{BookLaw-after, after-snoc, sizes-after}
use Rattle.book_live.specs.declared.views.Sizes.{Sizes}
use Rattle.book_live.specs.Shown.{IsReachedBook}

-- no events at all lead the machine to its start
pub IsReached-start : (z : Sizes) → IsReachedBook z (start z.jobs z.workers)
IsReached-start z = ([], [], refl)

-- one more event leads to the book after its step
pub IsReached-step : (z : Sizes) (b c : Book) (e : Event) (a : Answer) → IsReachedBook z b → step b e ≡ Ok (c, a) → IsReachedBook z c
IsReached-step z b c e a r is =
    (r.0 ++ e ∷ [], _, after-snoc z.jobs z.workers r.0 e c a (ap (λ (x : Run). x.fault) r.2) (ap (λ (x : Run). step x.book e) r.2 ∙ is))

module _ (z : Sizes) (b : Book) (r : IsReachedBook z b) where
  -- each book that the machine reaches meets the law of a book
  pub BookLaw-reached : BookLaw b
  BookLaw-reached = subst (λ (x : Run). BookLaw x.book) r.2 (BookLaw-after z.jobs z.workers r.0)

  -- a book that the machine reaches has the jobs that it began with
  pub jobs-reached : b.jobs ≡ z.jobs
  jobs-reached = sym (ap (λ (x : Run). x.book.jobs) r.2) ∙ (sizes-after z.jobs z.workers r.0).0

  -- a book that the machine reaches has as many passes as workers
  pub passes-reached : length b.passes ≡ z.workers
  passes-reached = sym (ap (λ (x : Run). length x.book.passes) r.2) ∙ (sizes-after z.jobs z.workers r.0).1

  -- each claim drew a job or ended a pass, so they are not many
  pub next-le : b.next ≤ z.jobs + z.workers
  next-le = omega (arith, BookLaw-next_le b BookLaw-reached, jobs-reached, passes-reached)
