-- What all workers together have found.
use Rattle.std.proofs.Common.{◌≡◌, ℕ, zero, suc, ◌+◌, ◌<◌, ◌≤◌, cond, eqb, List, [], ◌∷◌, length, true, Option, Some, None, inl, inr, refl, sym, ◌∙◌}
use Rattle.std.proofs.Common.{ap, subst, arith, slice_get}
use Rattle.std.specs.List.{All, Contains}
use Rattle.std.proofs.lemmas.Bool.{cases_lt, cases_eq, lt-ltb}
use Rattle.std.proofs.lemmas.Bool.Decides.{nat_tests}
use Rattle.std.proofs.lemmas.Option.{get_or_from_slice_get, slice_get_within}
use Rattle.std.proofs.lemmas.List.Sums.{sum_by-cons}
use Rattle.std.proofs.lemmas.List.Elements.{Contains-append_right}
use Rattle.book_core.specs.Passes.{Deeds, fresh}
use Rattle.book_core.specs.Jobs.{times, times_drawn, once_below}
use Rattle.book_core.specs.Places.{IsReported, IsLeast, IsAtMost}
use Rattle.book_live.specs.Callers.{BookId, PassState, ArePasses, all_deeds, IsEachDrawnOnce}
use Rattle.book_live.proofs.CallerLemmas.{slice_get-all_deeds}
use Rattle.work_run.specs.Faults.{IsLeastBad, IsFault}
use Rattle.work_run.specs.Work.{IsAbove, IsWorked, IsDone}
use Rattle.work_run.specs.PassesAtWork.{AreDone}
use Rattle.work_run.proofs.WorkLemmas.{IsAbove-falls}

-- ---- the passes that come back

-- each of them stands where it stood before
AreDone-at : (bad : ℕ → Type 0) (begins : ℕ → ℕ) (jobs : ℕ) (before after : List PassState) → AreDone bad begins jobs before after
    → (k : ℕ) (q : PassState) → slice_get after k ≡ Some q
    → (p : PassState) × (slice_get before k ≡ Some p) × IsDone bad begins jobs p q
AreDone-at bad begins jobs [] [] done k q at = cc
AreDone-at bad begins jobs [] (y ∷ ys) done k q at = absurd done
AreDone-at bad begins jobs (x ∷ xs) [] done k q at = cc
AreDone-at bad begins jobs (x ∷ xs) (y ∷ ys) done zero q at = let same : y ≡ q = cc in (x, refl, subst (IsDone bad begins jobs x) same done.0)
AreDone-at bad begins jobs (x ∷ xs) (y ∷ ys) done (suc k) q at = AreDone-at bad begins jobs xs ys done.1 k q at

AreDone-length : (bad : ℕ → Type 0) (begins : ℕ → ℕ) (jobs : ℕ) (before after : List PassState) → AreDone bad begins jobs before after
    → length after ≡ length before
AreDone-length bad begins jobs [] [] done = refl
AreDone-length bad begins jobs [] (y ∷ ys) done = absurd done
AreDone-length bad begins jobs (x ∷ xs) [] done = absurd done
AreDone-length bad begins jobs (x ∷ xs) (y ∷ ys) done = omega (arith, AreDone-length bad begins jobs xs ys done.1)

-- passes that have done their work have the book and the numbers that they had, and have ended
pub ArePasses-done : (bad : ℕ → Type 0) (begins : ℕ → ℕ) (jobs : ℕ) (b : BookId) (before after : List PassState)
    → ArePasses b (λ p. p.deeds ≡ fresh) before → AreDone bad begins jobs before after → ArePasses b (λ p. p.deeds.ended ≡ true) after
ArePasses-done bad begins jobs b before after dealt done = record {
  count = AreDone-length bad begins jobs before after done ∙ dealt.count;
  each = λ k q at.
      let was = AreDone-at bad begins jobs before after done k q at in
      let p = dealt.each k was.0 was.1 in
      (was.2.book ∙ p.0, was.2.number ∙ p.1, was.2.ended);
}

-- each pass that has done its work has worked on its jobs
pub IsWorked-each : (bad : ℕ → Type 0) (begins : ℕ → ℕ) (jobs : ℕ) (before after : List PassState) → AreDone bad begins jobs before after
    → (k : ℕ) (q : PassState) → slice_get after k ≡ Some q → IsWorked bad begins jobs q.deeds
IsWorked-each bad begins jobs before after done k q at = (AreDone-at bad begins jobs before after done k q at).2.worked

-- ---- who drew a job

contains-times : (xs : List ℕ) (x : ℕ) → 0 < times x xs → Contains xs x
contains-times [] x some = absurd (omega (arith, some))
contains-times (y ∷ xs) x some = elim (cases_eq y x) [
  | inl e ↦ (0, omega arith, e)
  | inr ne ↦
      let none : cond {A = ℕ} (eqb y x) 1 0 ≡ 0 = grind (arith, nat_tests) in
      Contains-append_right (y ∷ []) xs x (contains-times xs x (omega (arith, sum_by-cons (λ (z : ℕ). cond {A = ℕ} (eqb z x) 1 0) y xs)))
]

-- a pass that drew the job
drawn-by : (job : ℕ) (passes : List PassState) → 0 < times_drawn job (all_deeds passes) → (k : ℕ) × (p : PassState) × (slice_get passes k ≡ Some p)
    × Contains p.deeds.drawn job
drawn-by job [] some = absurd (omega (arith, some))
drawn-by job (p ∷ passes) some = elim (cases_lt 0 (times job p.deeds.drawn)) [
  | inl here ↦ (0, p, refl, contains-times p.deeds.drawn job here)
  | inr none ↦
      let r = drawn-by job passes (omega (arith, sum_by-cons (λ (d : Deeds). times job d.drawn) p.deeds (all_deeds passes))) in
      (suc r.0, r.1, r.2, r.3)
]

-- ---- the fault

-- each place lies in some job
job-of : (begins : ℕ → ℕ) (n : ℕ) → begins 0 ≡ 0 → (place : ℕ) → place < begins n → (job : ℕ) × (job < n) × (begins job ≤ place) × (place < begins (job + 1))
job-of begins zero from place lt = absurd (omega arith)
job-of begins (suc n) from place lt = elim (cases_lt place (begins n)) [
  | inl below ↦ let r = job-of begins n from place below in (r.0, omega (arith, r.1), r.2, r.3)
  | inr here ↦ (n, omega arith, here, subst (λ m. place < begins m) (let e : suc n ≡ n + 1 = omega arith in e) lt)
]

deeds-at : (passes : List PassState) (k : ℕ) (d : Deeds) → slice_get (all_deeds passes) k ≡ Some d → (p : PassState) × (slice_get passes k ≡ Some p)
    × (p.deeds ≡ d)
deeds-at [] k d e = cc
deeds-at (q ∷ passes) zero d e = (q, refl, let is : q.deeds ≡ d = cc in is)
deeds-at (q ∷ passes) (suc k) d e = deeds-at passes k d e

module _ (bad : ℕ → Type 0) (begins : ℕ → ℕ) (jobs : ℕ) (from : begins 0 ≡ 0) (end : ℕ)
    (least_bad : (job : ℕ) → job < jobs → (place : ℕ) → IsLeastBad bad (begins job) (begins (job + 1)) (Some place) → end ≤ place) where
  good-below : (job : ℕ) → job < jobs → (n place : ℕ) → place < n → begins job ≤ place → place < begins (job + 1) → place < end → ¬ bad place
  good-below job within zero place lt above below under is = absurd (omega arith)
  good-below job within (suc n) place lt above below under is =
      let least : IsLeastBad bad (begins job) (begins (job + 1)) (Some place) =
      (above, below, is, λ q low before. good-below job within n q (omega arith) low (omega arith) (omega arith)) in
      absurd (omega (arith, least_bad job within place least))

  -- where the least bad place of no job is below the end, no place below it is bad
  good : (place : ℕ) → place < begins jobs → place < end → ¬ bad place
  good place lt under = let j = job-of begins jobs from place lt in good-below j.0 j.1 (suc place) place (omega arith) j.2 j.3 under

IsAtMost-reported : (closing : Option ℕ) (passes : List Deeds) → IsLeast closing passes → (place : ℕ) → IsReported passes place → IsAtMost closing (Some place)
IsAtMost-reported None passes none place is = none place is
IsAtMost-reported (Some least) passes is_least place is = is_least.1 place is

IsAtMost-above : (closing : Option ℕ) (low place : ℕ) → IsAbove low closing → low ≤ place → IsAtMost closing (Some place)
IsAtMost-above None low place above from = above
IsAtMost-above (Some least) low place above from = omega (arith, above)

module _ (bad : ℕ → Type 0) (begins : ℕ → ℕ) (b : BookId) (passes : List PassState)
    (from : begins 0 ≡ 0)
    (worked : (k : ℕ) (p : PassState) → slice_get passes k ≡ Some p → IsWorked bad begins b.sizes.jobs p.deeds)
    (drawn : IsEachDrawnOnce b passes) where
  -- the closing answer isn't above the least bad place of any job: that was reported, or its job begins above what its pass saw
  IsAtMost-least : (closing : Option ℕ) → IsLeast closing (all_deeds passes) → All (λ (p : PassState). IsAtMost closing p.deeds.seen) passes
      → (job : ℕ) → job < b.sizes.jobs → (place : ℕ) → IsLeastBad bad (begins job) (begins (job + 1)) (Some place) → IsAtMost closing (Some place)
  IsAtMost-least closing is_least seen job within place least =
      let once : once_below job b.sizes.jobs ≡ 1 = ap (λ t. cond {A = ℕ} t 1 0) (lt-ltb job b.sizes.jobs within) in
      let by = drawn-by job passes (omega (arith, drawn job)) in
      let p = by.1 in
      let saw : IsAtMost closing p.deeds.seen =
      subst (λ (q : PassState). IsAtMost closing q.deeds.seen) (get_or_from_slice_get passes by.0 p p by.2)
      (seen by.0 p (slice_get_within passes by.0 p by.2)) in
      elim ((worked by.0 p by.2).settled job by.3) [
        | inl found ↦ IsAtMost-reported closing (all_deeds passes) is_least place (by.0, p.deeds, slice_get-all_deeds passes by.0 p by.2, found place least)
        | inr above ↦ IsAtMost-above closing (begins job) place (IsAbove-falls (begins job) closing p.deeds.seen saw above) least.0
      ]

  -- the least of what all passes reported, where none saw less, is the least bad place of all jobs
  pub IsFault-least : (closing : Option ℕ) → IsLeast closing (all_deeds passes) → All (λ (p : PassState). IsAtMost closing p.deeds.seen) passes
      → IsFault bad (begins b.sizes.jobs) closing
  IsFault-least None none seen = λ place _ lt.
      good bad begins b.sizes.jobs from (suc place) (λ job within q least. absurd (IsAtMost-least None none seen job within q least)) place lt (omega arith)
  IsFault-least (Some least) is seen =
      let r = is.0 in
      let at = deeds-at passes r.0 r.1 r.2 in
      let has : Contains at.0.deeds.reported least = subst (λ (d : Deeds). Contains d.reported least) (sym at.2) r.3 in
      let w = worked r.0 at.0 at.1 in (
        omega arith,
        w.within least has,
        w.is_bad least has,
        λ place _ lt. good bad begins b.sizes.jobs from least
            (IsAtMost-least (Some least) is seen) place (omega (arith, w.within least has)) lt,
      )
