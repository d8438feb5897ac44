-- The bad places of jobs that are skipped.
use Rattle.std.proofs.Common.{ℕ, ◌≤◌, ◌⊎◌, Option, Some, None, inl, inr, arith}
use Rattle.std.specs.List.{Contains}
use Rattle.book_core.specs.Passes.{Deeds}
use Rattle.book_core.specs.Places.{IsAtMost}
use Rattle.work_run.specs.Work.{IsAbove, IsWorked}
use Rattle.work_run.specs.Laws.{LieAbove, IsReportedOf}
use Rattle.work_run.proofs.WorkLemmas.{IsAbove-falls}

-- what is no smaller than a place above the answer lies above it too
IsAbove-rises : (answer : Option ℕ) (low place : ℕ) → IsAbove low answer → low ≤ place → IsAbove place answer
IsAbove-rises None low place above from = above
IsAbove-rises (Some least) low place above from = omega (arith, above)

-- a job that begins above what was seen lies above the answer
pub LieAbove-seen : (bad : ℕ → Type 0) (begins : ℕ → ℕ) (d : Deeds) (answer : Option ℕ) (job : ℕ) → IsAtMost answer d.seen
    → IsAbove (begins job) d.seen → LieAbove bad begins answer job
LieAbove-seen bad begins d answer job most above =
    λ place from below is. IsAbove-rises answer (begins job) place (IsAbove-falls (begins job) answer d.seen most above) from

-- a drawn job was reported or skipped
pub IsReportedOf-or-above : (bad : ℕ → Type 0) (begins : ℕ → ℕ) (jobs : ℕ) (d : Deeds) (answer : Option ℕ) (job : ℕ) → IsWorked bad begins jobs d
    → IsAtMost answer d.seen → Contains d.drawn job → IsReportedOf bad begins d job ⊎ LieAbove bad begins answer job
IsReportedOf-or-above bad begins jobs d answer job worked most drawn = elim (worked.settled job drawn) [
  | inl found ↦ inl found
  | inr above ↦ inr (LieAbove-seen bad begins d answer job most above)
]
