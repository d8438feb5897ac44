-- What each kind of step does to a book, where it is answered.
use Rattle.std.proofs.Common.{◌≡◌, ℕ, ◌+◌, ◌<◌, ◌≤◌, ◌^◌, Bool, true, false, cond, ltb, length, get_or, Option, Some, None, Ok, Err, IsOk, refl, ◌∙◌}
use Rattle.std.proofs.Common.{ap, subst, arith, slice_get}
use Rattle.std.proofs.lemmas.Bool.{lt-ltb, le-ltb, cond-false}
use Rattle.std.proofs.lemmas.List.{length-set}
use Rattle.std.proofs.lemmas.Option.{slice_get_read, slice_get_within}
use Rattle.book_core.specs.declared.events.Event.TheVariants.{Claim, Report, Look}
use Rattle.book_core.specs.declared.events.Answer.TheVariants.{Drawn, Ended, Reported, Least}
use Rattle.book_core.specs.declared.events.CoreFault.TheVariants.{C2, C3}
use Rattle.book_core.specs.Passes.{Deeds, with_end}
use Rattle.book_core.specs.Books.{Book}
use Rattle.book_core.specs.StoredBooks.{IsInRange}
use Rattle.book_core.specs.Steps.{drawn_by, ended_by, reported_by, looked_by, StepOutcome, claims, reports, looks, by_pass, step}
use Rattle.book_core.proofs.ListLemmas.{sum_by-changed}

-- a claim, by whether the pass has ended and whether a job is left
abbrev pub claimed : Book → ℕ → Deeds → Bool → Bool → StepOutcome
claimed b w p done room = cond done (Err C2) (cond room (Ok (drawn_by b w p, Drawn b.next)) (Ok (ended_by b w p, Ended)))

-- a report, by whether its place is small enough
abbrev pub placed : Book → ℕ → ℕ → Deeds → Bool → StepOutcome
placed b w place p fits = cond fits (Ok (reported_by b w place p, Reported)) (Err C3)

module _ (b : Book) (w : ℕ) (p : Deeds) (at : slice_get b.passes w ≡ Some p) where
  -- the claim of a pass that has not ended draws a job, while there is one
  pub step-drawn : p.ended ≡ false → b.next < b.jobs → step b (Claim w) ≡ Ok (drawn_by b w p, Drawn b.next)
  step-drawn going room =
      ap (λ o. by_pass o (claims b w)) at
      ∙ ap (λ t. claimed b w p t (ltb b.next b.jobs)) going
      ∙ ap (claimed b w p false) (lt-ltb b.next b.jobs room)

  -- and ends the pass where there is none
  pub step-ended : p.ended ≡ false → b.jobs ≤ b.next → step b (Claim w) ≡ Ok (ended_by b w p, Ended)
  step-ended going over =
      ap (λ o. by_pass o (claims b w)) at
      ∙ ap (λ t. claimed b w p t (ltb b.next b.jobs)) going
      ∙ ap (claimed b w p false) (le-ltb b.next b.jobs over)

  -- a report of a place below 2^32 is taken, and the book keeps the place and the least of all
  pub step-reported : (place : ℕ) → place < 2 ^ 32 → step b (Report w place) ≡ Ok (reported_by b w place p, Reported)
  step-reported place small =
      ap (λ o. by_pass o (reports b w place)) at
      ∙ ap (placed b w place p) (lt-ltb place (2 ^ 32) small)

  -- a look is answered with the least place, which the book keeps as seen by the pass
  pub step-looked : step b (Look w) ≡ Ok (looked_by b w p, Least b.least)
  step-looked = ap (λ o. by_pass o (looks b w)) at

  -- a claim is answered only where the pass has not ended
  answered-open : IsOk (step b (Claim w)) → p.ended ≡ false
  answered-open ok = go p.ended refl (subst (λ o. IsOk (by_pass o (claims b w))) at ok)
    where
      go : (t : Bool) → p.ended ≡ t → IsOk (claimed b w p t (ltb b.next b.jobs)) → p.ended ≡ false
      go true e ok = cc
      go false e ok = e

-- ---- an event that is answered

-- is of a pass that is there
answered-within : (b : Book) (w : ℕ) (act : Deeds → StepOutcome) → IsOk (by_pass (slice_get b.passes w) act) → w < length b.passes
answered-within b w act ok = go (slice_get b.passes w) refl ok
  where
    go : (o : Option Deeds) → slice_get b.passes w ≡ o → IsOk (by_pass o act) → w < length b.passes
    go None e ok = cc
    go (Some p) e ok = slice_get_within b.passes w p e

module _ (b : Book) (w : ℕ) (p : Deeds) (ok : IsOk (step b (Claim w))) (is : p ≡ get_or b.passes w p) where
  claimant : slice_get b.passes w ≡ Some p
  claimant = slice_get_read b.passes (length b.passes) w p refl (answered-within b w (claims b w) ok) is

  -- a claim that is taken while a job is left draws the next job
  pub claim-drawn : b.next < b.jobs → step b (Claim w) ≡ Ok (drawn_by b w p, Drawn b.next)
  claim-drawn room = step-drawn b w p claimant (answered-open b w p claimant ok) room

  -- a claim that is taken while no job is left ends the pass
  pub claim-ended : b.jobs ≤ b.next → step b (Claim w) ≡ Ok (ended_by b w p, Ended)
  claim-ended over = step-ended b w p claimant (answered-open b w p claimant ok) over

  -- the end of a pass makes room for one more claim
  pub ended-in_range : IsInRange b → (n : ℕ) → n ≤ b.next + 1 → IsInRange (record (ended_by b w p) { next = n })
  ended-in_range range n le =
      let was : cond {A = ℕ} p.ended 1 0 ≡ 0 = cond-false {A = ℕ} p.ended 1 0 (answered-open b w p claimant ok) in
      record {
        jobs = range.jobs;
        passes = omega (arith, range.passes, length-set b.passes w (with_end p));
        next = omega (arith, le, range.next, was, sum_by-changed (λ d. cond d.ended 1 0) b.passes w p (with_end p) claimant);
      }
