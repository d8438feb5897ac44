-- Runs: one more event, where a run stops, and what every run keeps.
use Rattle.std.proofs.Common.{◌≡◌, ℕ, ◌+◌, ◌<◌, ◌^◌, List, [], ◌∷◌, ◌++◌, length, take, drop, get_or, fold, Option, Some, None, Ok, Err, IsOk, Bool}
use Rattle.std.proofs.Common.{true, false, ltb, refl, sym, ◌∙◌, ap, subst, slice_get}
use Rattle.std.proofs.lemmas.List.{length-set, length-replicate, take-append-drop}
use Rattle.std.proofs.lemmas.List.Sums.{fold-append, fold_more}
use Rattle.book_core.specs.declared.events.Event.{Event}
use Rattle.book_core.specs.declared.events.Event.TheVariants.{Claim, Report, Look}
use Rattle.book_core.specs.declared.events.Answer.{Answer}
use Rattle.book_core.specs.declared.events.CoreFault.{CoreFault}
use Rattle.book_core.specs.declared.events.CoreFault.TheVariants.{C1, C2, C3, Memory}
use Rattle.book_core.specs.Passes.{Deeds, fresh}
use Rattle.book_core.specs.Books.{Book, start, SameSizes}
use Rattle.book_core.specs.Steps.{StepOutcome, claims, reports, looks, by_pass, step, IsRefusal}
use Rattle.book_core.specs.Runs.{Run, after_step, unless_ended, run_on, going, run_from, run_after, StopsAt}
use Rattle.book_core.specs.Laws.{BookLaw}
use Rattle.book_core.proofs.StepLemmas.{claimed, placed}
use Rattle.book_core.proofs.LawLemmas.{Keeps, step-keeps, BookLaw-start}

-- ---- the law

after_step-keeps : (r : Run) → BookLaw r.book → (o : StepOutcome) → Keeps o → BookLaw (after_step r o).book
after_step-keeps r law (Ok t) k = k
after_step-keeps r law (Err f) k = law

unless_ended-keeps : (f : Option CoreFault) (r : Run) → BookLaw r.book → (e : Event) → BookLaw (unless_ended f r e).book
unless_ended-keeps None r law e = after_step-keeps r law (step r.book e) (step-keeps r.book law e)
unless_ended-keeps (Some f) r law e = law

fold-keeps : (r : Run) → BookLaw r.book → (es : List Event) → BookLaw (fold run_on r es).book
fold-keeps r law [] = law
fold-keeps r law (e ∷ es) = fold-keeps (run_on r e) (unless_ended-keeps r.fault r law e) es

-- a run from a book that meets the law ends at one that does
BookLaw-run_from : (b : Book) → BookLaw b → (es : List Event) → BookLaw (run_from b es).book
BookLaw-run_from b law es = fold-keeps (going b []) law es

-- a run without a fault, from a book that meets the law, leads to one that does
pub BookLaw-going : (b c : Book) (es : List Event) (told : List Answer) → run_from b es ≡ going c told → BookLaw b → BookLaw c
BookLaw-going b c es told is law = subst (λ (r : Run). BookLaw r.book) is (BookLaw-run_from b law es)

-- after every list of events the law holds
pub BookLaw-after : (jobs workers : ℕ) (es : List Event) → BookLaw (run_after jobs workers es).book
BookLaw-after jobs workers es = BookLaw-run_from (start jobs workers) (BookLaw-start jobs workers) es

-- ---- one more event

-- which is no fault
pub after-snoc : (jobs workers : ℕ) (es : List Event) (e : Event) (b : Book) (a : Answer) → (run_after jobs workers es).fault ≡ None
    → step (run_after jobs workers es).book e ≡ Ok (b, a)
    → run_after jobs workers (es ++ e ∷ []) ≡ going b ((run_after jobs workers es).answers ++ a ∷ [])
after-snoc jobs workers es e b a sound is =
    let r = run_after jobs workers es in
    fold-append run_on (going (start jobs workers) []) es (e ∷ [])
    ∙ ap (λ f. unless_ended f r e) sound
    ∙ ap (after_step r) is

-- a run that a fault has ended stays
fold-ended : (r : Run) (f : CoreFault) → r.fault ≡ Some f → (es : List Event) → fold run_on r es ≡ r
fold-ended r f is [] = refl
fold-ended r f is (e ∷ es) = ap (λ s. fold run_on s es) (ap (λ g. unless_ended g r e) is) ∙ fold-ended r f is es

-- ---- where a run stops

module _ (b : Book) (es : List Event) (i : ℕ) (c : Book) (told : List Answer) (before : run_from b (take i es) ≡ going c told)
    (count : length told ≡ i) (within : i < length es) where
  -- the run of the first events and one more
  run_from-more : (d : Event) → run_from b (take (i + 1) es) ≡ run_on (going c told) (get_or es i d)
  run_from-more d = fold_more run_on (going b []) es i d within ∙ ap (λ r. run_on r (get_or es i d)) before

  faulty : (d : Event) (f : CoreFault) → step c (get_or es i d) ≡ Err f → ((run_from b es).fault ≡ Some f) × (length (run_from b es).answers ≡ i)
  faulty d f fault =
      let stop : Run = record { book = c; answers = told; fault = Some f } in
      let at : run_from b (take (i + 1) es) ≡ stop = run_from-more d ∙ ap (after_step (going c told)) fault in
      let all : run_from b es ≡ stop =
      ap (run_from b) (sym (take-append-drop (i + 1) es))
      ∙ fold-append run_on (going b []) (take (i + 1) es) (drop (i + 1) es)
      ∙ ap (λ r. fold run_on r (drop (i + 1) es)) at
      ∙ fold-ended stop f refl (drop (i + 1) es) in
      (ap (λ (r : Run). r.fault) all, ap (λ (r : Run). length r.answers) all ∙ count)

  -- where event number i is refused, the run stops
  pub stops_at : (d : Event) (f : CoreFault) → IsRefusal c (get_or es i d) f → StopsAt b es i f
  stops_at d C1 fault = faulty d C1 fault
  stops_at d C2 fault = faulty d C2 fault
  stops_at d C3 fault = faulty d C3 fault
  stops_at d Memory ok = (ap (λ (r : Run). r.fault) (run_from-more d) ∙ go (step c (get_or es i d)) ok, within)
    where
      go : (o : StepOutcome) → IsOk o → (after_step (going c told) o).fault ≡ None
      go (Ok t) k = refl
      go (Err f) k = cc

-- ---- a run keeps the counts of jobs and of passes

abbrev KeepsSizes : Book → StepOutcome → Type 0
KeepsSizes b (Ok r) = SameSizes b r.0
KeepsSizes b (Err f) = Unit {0}

claims-sizes : (b : Book) (w : ℕ) (p : Deeds) → KeepsSizes b (claims b w p)
claims-sizes b w p = go p.ended (ltb b.next b.jobs)
  where
    go : (done room : Bool) → KeepsSizes b (claimed b w p done room)
    go true room = tt
    go false true = (refl, length-set b.passes w _)
    go false false = (refl, length-set b.passes w _)

reports-sizes : (b : Book) (w place : ℕ) (p : Deeds) → KeepsSizes b (reports b w place p)
reports-sizes b w place p = go (ltb place (2 ^ 32))
  where
    go : (fits : Bool) → KeepsSizes b (placed b w place p fits)
    go true = (refl, length-set b.passes w _)
    go false = tt

by_pass-sizes : (b : Book) (o : Option Deeds) (act : Deeds → StepOutcome) → ((p : Deeds) → KeepsSizes b (act p)) → KeepsSizes b (by_pass o act)
by_pass-sizes b None act each = tt
by_pass-sizes b (Some p) act each = each p

step-sizes : (b : Book) (e : Event) → KeepsSizes b (step b e)
step-sizes b (Claim w) = by_pass-sizes b (slice_get b.passes w) (claims b w) (claims-sizes b w)
step-sizes b (Report w place) = by_pass-sizes b (slice_get b.passes w) (reports b w place) (reports-sizes b w place)
step-sizes b (Look w) = by_pass-sizes b (slice_get b.passes w) (looks b w) (λ p. (refl, length-set b.passes w _))

-- a step that is answered leaves as many jobs and passes as there were
pub SameSizes-step : (b c : Book) (e : Event) (a : Answer) → step b e ≡ Ok (c, a) → SameSizes b c
SameSizes-step b c e a is = let k : KeepsSizes b (Ok (c, a)) = subst (KeepsSizes b) is (step-sizes b e) in k

after_step-sizes : (r : Run) (o : StepOutcome) → KeepsSizes r.book o → SameSizes r.book (after_step r o).book
after_step-sizes r (Ok t) k = k
after_step-sizes r (Err f) k = (refl, refl)

unless_ended-sizes : (f : Option CoreFault) (r : Run) (e : Event) → SameSizes r.book (unless_ended f r e).book
unless_ended-sizes None r e = after_step-sizes r (step r.book e) (step-sizes r.book e)
unless_ended-sizes (Some f) r e = (refl, refl)

fold-sizes : (r : Run) (es : List Event) → SameSizes r.book (fold run_on r es).book
fold-sizes r [] = (refl, refl)
fold-sizes r (e ∷ es) = let one = unless_ended-sizes r.fault r e in let more = fold-sizes (run_on r e) es in (more.0 ∙ one.0, more.1 ∙ one.1)

-- a run without a fault leaves as many jobs and passes as there were
pub SameSizes-going : (b c : Book) (es : List Event) (told : List Answer) → run_from b es ≡ going c told → SameSizes b c
SameSizes-going b c es told is = subst (λ (r : Run). SameSizes b r.book) is (fold-sizes (going b []) es)

-- after any events from the start, there are as many jobs as at first, and a pass for each worker
pub sizes-after : (jobs workers : ℕ) (es : List Event) → ((run_after jobs workers es).book.jobs ≡ jobs)
    × (length (run_after jobs workers es).book.passes ≡ workers)
sizes-after jobs workers es = let s = fold-sizes (going (start jobs workers) []) es in (s.0, s.1 ∙ length-replicate workers fresh)
