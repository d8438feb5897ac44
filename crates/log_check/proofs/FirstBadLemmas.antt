-- The first lemma of a log that isn't good.
use Rattle.std.proofs.Common.{◌≡◌, ℕ, zero, suc, ◌<◌, ◌≤◌, ◌⊎◌, length, Some, None, inl, inr, subst, arith}
use Rattle.std.proofs.lemmas.Bool.{cases_lt}
use Rattle.set_sum.specs.Bundles.{ShownBundle, IsBundle}
use Rattle.log_file.specs.Logs.{IsLog, Log}
use Rattle.work_run.specs.Faults.{IsFault}
use Rattle.log_check.specs.GoodLogs.{AreGood, IsGood}
use Rattle.log_check.specs.LogFaults.{IsFirstBadLemma}
use Rattle.log_check.proofs.DecideLemmas.{good_decided}

module _ (v : ShownBundle) (is : IsBundle v) (log : Log) (is_log : IsLog log) (side : log.side ≡ v.side) where
  abbrev IsBad : ℕ → Type 0
  IsBad i = ¬ IsGood v log i

  -- a lemma that isn't bad is good, since that can be told
  good_unless_bad : (i : ℕ) → ¬ IsBad i → IsGood v log i
  good_unless_bad i not = elim (good_decided v is log is_log side i) [ inl good ↦ good | inr bad ↦ absurd (not bad) ]

  -- where no lemma of a log is bad, each one is good
  pub good_whole : IsFault IsBad (length log.lemmas) None → AreGood v log
  good_whole none i low = good_unless_bad i (none i (omega arith) low)

  -- the least number of a bad lemma is that of the first lemma that isn't good
  pub first_bad_whole : (i : ℕ) → IsFault IsBad (length log.lemmas) (Some i) → IsFirstBadLemma v log i
  first_bad_whole i least = record { there = least.1; bad = least.2; before = λ j low. good_unless_bad j (least.3 j (omega arith) low) }

  -- ---- there is one, or all are good

  good_up_to : (m : ℕ) → m ≤ length log.lemmas → ((i : ℕ) → i < m → IsGood v log i) ⊎ ((i : ℕ) × IsFirstBadLemma v log i)
  good_up_to zero low = inl (λ i none. absurd (omega arith))
  good_up_to (suc m) low = elim (good_up_to m (omega arith)) [
    | inr first ↦ inr first
    | inl before ↦ elim (good_decided v is log is_log side m) [
      | inr bad ↦ inr (m, record { there = omega arith; bad = bad; before = before })
      | inl good ↦ inl (λ i l. elim (cases_lt i m) [
        | inl less ↦ before i less
        | inr more ↦ let same : m ≡ i = omega arith in subst (IsGood v log) same good
      ])
    ]
  ]

  -- all lemmas of a log are good, or there is a first one that isn't
  pub good_or_first_bad : AreGood v log ⊎ ((i : ℕ) × IsFirstBadLemma v log i)
  good_or_first_bad = good_up_to (length log.lemmas) (omega arith)
