-- What holds of the jobs that workers skip.
use Rattle.std.specs.Prelude.{ℕ, ◌+◌, ◌<◌, ◌≤◌, ◌⊎◌, Option, Some}
use Rattle.std.specs.List.{Contains}
use Rattle.book_core.specs.Passes.{Deeds}
use Rattle.book_core.specs.Places.{IsAtMost}
use Rattle.work_run.specs.Faults.{IsLeastBad}
use Rattle.work_run.specs.Work.{IsAbove, IsWorked}

-- a worker drew the job, and it begins above the last place that the worker saw
abbrev pub IsSkipped : (ℕ → ℕ) → Deeds → ℕ → Type 0
IsSkipped begins d job = Contains d.drawn job × IsAbove (begins job) d.seen

-- each bad place of a job lies above the answer
abbrev pub LieAbove : (ℕ → Type 0) → (ℕ → ℕ) → Option ℕ → ℕ → Type 0
LieAbove bad begins answer job = (place : ℕ) → begins job ≤ place → place < begins (job + 1) → bad place → IsAbove place answer

-- the least bad place of a job is among the reports, where it has one
abbrev pub IsReportedOf : (ℕ → Type 0) → (ℕ → ℕ) → Deeds → ℕ → Type 0
IsReportedOf bad begins d job = (place : ℕ) → IsLeastBad bad (begins job) (begins (job + 1)) (Some place) → Contains d.reported place

-- where the closing answer is above nothing that a worker saw, the bad places of each job that it skipped all lie above that answer
abbrev pub SkippedPlacesLieAbove : (ℕ → Type 0) → (ℕ → ℕ) → Type 0
SkippedPlacesLieAbove bad begins =
    (d : Deeds) (answer : Option ℕ) → IsAtMost answer d.seen → (job : ℕ) → IsSkipped begins d job → LieAbove bad begins answer job

-- and once its work is done, the least bad place of each job that it drew was reported, or the bad places of the job all lie above
abbrev pub DrawnJobsAreSettled : (ℕ → Type 0) → (ℕ → ℕ) → ℕ → Type 0
DrawnJobsAreSettled bad begins jobs =
    (d : Deeds) → IsWorked bad begins jobs d → (answer : Option ℕ) → IsAtMost answer d.seen → (job : ℕ) → Contains d.drawn job →
    IsReportedOf bad begins d job ⊎ LieAbove bad begins answer job
