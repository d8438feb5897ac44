use Rattle.std.proofs.Common.{◌≡◌, ◌∙◌, ◌<◌, length, get_or, refl, arith, rules, true}
use Rattle.std.proofs.lemmas.Option.{slice_get_read, slice_get_within, get_or_from_slice_get}
use Rattle.book_live.specs.Callers.{BookId, PassState}
use Rattle.test_parts.proofs.books.close_after_threads.Goals as goal

abbrev IsEndedOf : BookId → PassState → PassState → Type 0
IsEndedOf b p q = (q.book ≡ b) × (q.number ≡ p.number) × (q.deeds.ended ≡ true)

-- the passes that come back from the threads have ended and are those of the book
pub close-requires : goal.close-requires
close-requires g c =
    let passes = c.in_ok-book.passes.items in
    let dealt = c.in_ok-book.ensures.passes in
    record {
      count = (let same : length c.in_ok-ended.ended.items ≡ length passes = omega (arith, c.in_ok-ended.ensures.len) in same ∙ dealt.count);
      each = λ k p at.
          let within : k < length passes = omega (arith, slice_get_within _ k p at, c.in_ok-ended.ensures.len) in
          let given = (c.in_ok-ended.ensures.each k p within).1 in
          let was = dealt.each k given.job (slice_get_read passes (length passes) k given.job refl within given.job_read) in
          let is = get_or_from_slice_get c.in_ok-ended.ended.items k p p at in
          let met = given.call.met in
          let told : (p.book ≡ c.in_ok-book.book) × (p.number ≡ given.job.number)
          × (p.deeds.ended ≡ true) = rw is at (let t : (IsEndedOf c.in_ok-book.book given.job (get_or c.in_ok-ended.ended.items k p)) =
          search rules in t) in
          (told.0, told.1 ∙ was.1, told.2);
    }
