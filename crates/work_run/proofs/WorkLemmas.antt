-- What a worker has done after one more job.
use Rattle.std.proofs.Common.{◌≡◌, ℕ, zero, suc, ◌+◌, ◌<◌, ◌≤◌, ◌++◌, ◌∷◌, [], false, Option, Some, None, inl, inr, refl, sym, ap, ◌∙◌, subst, arith}
use Rattle.std.specs.List.{Contains}
use Rattle.std.proofs.lemmas.Bool.{cases_lt, cases_eq}
use Rattle.std.proofs.lemmas.List.Elements.{Contains-push, Contains-push_cases, Contains-append_left}
use Rattle.book_core.specs.Passes.{Deeds, with_drawn, with_end, with_report, with_seen}
use Rattle.book_core.specs.Places.{IsAtMost}
use Rattle.book_live.specs.Callers.{BookId, PassState}
use Rattle.work_run.specs.Faults.{IsLeastBad}
use Rattle.work_run.specs.Work.{IsAbove, IsSettled, IsWorked}

-- there is one least bad place
IsLeastBad-one : (bad : ℕ → Type 0) (from end x y : ℕ) → IsLeastBad bad from end (Some x) → IsLeastBad bad from end (Some y) → x ≡ y
IsLeastBad-one bad from end x y a b = elim (cases_lt x y) [
  | inl lt ↦ absurd (b.3 x a.0 lt a.2)
  | inr ge ↦ elim (cases_lt y x) [
    | inl lt ↦ absurd (a.3 y b.0 lt b.2)
    | inr le ↦ omega arith
  ]
]

-- the places of one job lie below the end of all
pub below-end : (begins : ℕ → ℕ) (jobs : ℕ) → ((job : ℕ) → job < jobs → begins job ≤ begins (job + 1)) → (n : ℕ) → n ≤ jobs → begins n ≤ begins jobs
below-end begins jobs rises n le = go begins jobs jobs rises n le (omega arith)
  where
    go : (begins : ℕ → ℕ) (jobs end : ℕ) → ((job : ℕ) → job < jobs → begins job ≤ begins (job + 1)) → (n : ℕ) → n ≤ end → end ≤ jobs → begins n ≤ begins end
    go begins jobs zero rises n le top = let e : n ≡ 0 = omega arith in let same : begins n ≡ begins 0 = ap begins e in omega arith
    go begins jobs (suc end) rises n le top = elim (cases_eq n (suc end)) [
      | inl e ↦ let same : begins n ≡ begins (suc end) = ap begins e in omega arith
      | inr ne ↦
          let below : begins n ≤ begins end = go begins jobs end rises n (omega arith) (omega arith) in
          let up : begins end ≤ begins (end + 1) = rises end (omega arith) in
          let next : begins (end + 1) ≡ begins (suc end) = ap begins (let e : end + 1 ≡ suc end = omega arith in e) in
          omega arith
    ]

-- what lies above a place lies above each smaller one
pub IsAbove-falls : (place : ℕ) (least seen : Option ℕ) → IsAtMost least seen → IsAbove place seen → IsAbove place least
IsAbove-falls place least None most above = absurd above
IsAbove-falls place None (Some seen) most above = absurd most
IsAbove-falls place (Some least) (Some seen) most above = omega (arith, most, above)

module _ (bad : ℕ → Type 0) (begins : ℕ → ℕ) (jobs : ℕ) (d : Deeds) (worked : IsWorked bad begins jobs d) where
  -- a job that is settled when it is drawn
  pub IsWorked-drawn : (job : ℕ) → IsSettled bad begins d job → IsWorked bad begins jobs (with_drawn d job)
  IsWorked-drawn job now = record {
    settled = λ j has. elim (Contains-push_cases d.drawn job j has) [ inl old ↦ worked.settled j old | inr e ↦ subst (IsSettled bad begins d) e now ];
    is_bad = worked.is_bad;
    within = worked.within;
  }

  -- a look: what it shows is no more than what was seen before
  pub IsWorked-seen : (least : Option ℕ) → IsAtMost least d.seen → IsWorked bad begins jobs (with_seen d least)
  IsWorked-seen least falls = record {
    settled = λ j has. elim (worked.settled j has) [ inl found ↦ inl found | inr above ↦ inr (IsAbove-falls (begins j) least d.seen falls above) ];
    is_bad = worked.is_bad;
    within = worked.within;
  }

  -- one more bad place is reported
  pub IsWorked-reported : (x : ℕ) → bad x → x < begins jobs → IsWorked bad begins jobs (with_report d x)
  IsWorked-reported x is below = record {
    settled = λ j has. elim (worked.settled j has) [
      | inl found ↦ inl
          (λ place least. Contains-append_left d.reported (x ∷ []) place (found place least))
      | inr above ↦ inr above
    ];
    is_bad = λ place has. elim (Contains-push_cases d.reported x place has) [ inl old ↦ worked.is_bad place old | inr e ↦ subst bad e is ];
    within = λ place has. elim (Contains-push_cases d.reported x place has) [ inl old ↦ worked.within place old | inr e ↦ omega arith ];
  }

  -- ending a worker's pass leaves what it has done of its jobs
  pub IsWorked-ended : IsWorked bad begins jobs (with_end d)
  IsWorked-ended = record { settled = worked.settled; is_bad = worked.is_bad; within = worked.within }

-- a job without a bad place
pub IsSettled-good : (bad : ℕ → Type 0) (begins : ℕ → ℕ) (d : Deeds) (job : ℕ) → IsLeastBad bad (begins job) (begins (job + 1)) None
    → IsSettled bad begins d job
IsSettled-good bad begins d job none = inl (λ place least. absurd (none place least.0 least.1 least.2))

-- a job whose least bad place was just reported
pub IsSettled-bad : (bad : ℕ → Type 0) (begins : ℕ → ℕ) (d : Deeds) (job x : ℕ) → IsLeastBad bad (begins job) (begins (job + 1)) (Some x)
    → IsSettled bad begins (with_report d x) job
IsSettled-bad bad begins d job x is = inl (λ place least. subst (Contains (d.reported ++ x ∷ []))
    (IsLeastBad-one bad (begins job) (begins (job + 1)) x place is least) (Contains-push d.reported x))

-- ---- the pass of a worker, at work

-- the pass of this book and number goes on, and has settled the jobs that it drew
pub record IsAtWork (bad : ℕ → Type 0) (begins : ℕ → ℕ) (jobs : ℕ) (b : BookId) (w : ℕ) (p : PassState) : Type 0 where
  pub book : p.book ≡ b
  pub number : p.number ≡ w
  pub going : p.deeds.ended ≡ false
  pub worked : IsWorked bad begins jobs p.deeds

-- it drew one more job and looked, and may have reported
module _ (bad : ℕ → Type 0) (begins : ℕ → ℕ) (jobs : ℕ) (b : BookId) (w : ℕ) (p drew looked : PassState) (job : ℕ) (least : Option ℕ)
    (working : IsAtWork bad begins jobs b w p)
    (drawn : drew ≡ record p { deeds = with_drawn p.deeds job })
    (seen : looked ≡ record drew { deeds = with_seen drew.deeds least })
    (falls : IsAtMost least drew.deeds.seen) where
  before : Deeds
  before = with_seen p.deeds least

  has_seen : IsWorked bad begins jobs before
  unfolding before
  has_seen = IsWorked-seen bad begins jobs p.deeds working.worked least (subst (λ (q : PassState). IsAtMost least q.deeds.seen) drawn falls)

  looked-is : looked ≡ record p { deeds = with_drawn before job }
  unfolding before
  looked-is = seen ∙ ap (λ (q : PassState). record q { deeds = with_seen q.deeds least }) drawn

  with_deeds : (q : PassState) (d : Deeds) → q ≡ record p { deeds = d } → d.ended ≡ p.deeds.ended → IsWorked bad begins jobs d → IsAtWork bad begins jobs b w q
  with_deeds q d is going worked = subst (IsAtWork bad begins jobs b w) (sym is)
      (record { book = working.book; number = working.number; going = going ∙ working.going; worked = worked })

  -- a job that begins above the least place seen is skipped, and the pass goes on
  pub IsAtWork-skipped : IsAbove (begins job) least → IsAtWork bad begins jobs b w looked
  unfolding before
  IsAtWork-skipped above = with_deeds looked (with_drawn before job) looked-is refl (IsWorked-drawn bad begins jobs before has_seen job (inr above))

  -- a job with no bad place leaves the pass at work
  pub IsAtWork-good : IsLeastBad bad (begins job) (begins (job + 1)) None → IsAtWork bad begins jobs b w looked
  unfolding before
  IsAtWork-good none = with_deeds looked (with_drawn before job) looked-is refl
      (IsWorked-drawn bad begins jobs before has_seen job (IsSettled-good bad begins before job none))

  -- a job whose least bad place was reported leaves the pass at work
  pub IsAtWork-bad : (reported : PassState) (x : ℕ) → reported ≡ record looked { deeds = with_report looked.deeds x }
      → IsLeastBad bad (begins job) (begins (job + 1)) (Some x) → x < begins jobs → IsAtWork bad begins jobs b w reported
  unfolding before
  IsAtWork-bad reported x is least_bad within =
      with_deeds reported (with_drawn (with_report before x) job) (is ∙ ap (λ (q : PassState). record q { deeds = with_report q.deeds x }) looked-is) refl
      (IsWorked-drawn bad begins jobs (with_report before x) (IsWorked-reported bad begins jobs before has_seen x least_bad.2 within) job
      (IsSettled-bad bad begins before job x least_bad))
