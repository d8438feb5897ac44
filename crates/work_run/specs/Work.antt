-- What a worker has done of its jobs.
use Rattle.std.specs.Prelude.{◌≡◌, ℕ, ◌+◌, ◌<◌, ◌⊎◌, true, Option, Some, None}
use Rattle.std.specs.List.{Contains}
use Rattle.book_core.specs.Passes.{Deeds}
use Rattle.book_live.specs.Callers.{PassState}
use Rattle.work_run.specs.Faults.{IsLeastBad}

-- no place lies above none
abbrev pub IsAbove : ℕ → Option ℕ → Type 0
IsAbove place None = ⊥
IsAbove place (Some least) = least < place

-- the least bad place of a job was reported, where it has one; or the job begins above the last place that was seen, and was skipped
abbrev pub IsSettled : (ℕ → Type 0) → (ℕ → ℕ) → Deeds → ℕ → Type 0
IsSettled bad begins d job = ((place : ℕ) → IsLeastBad bad (begins job) (begins (job + 1)) (Some place) → Contains d.reported place) ⊎ IsAbove (begins job) d.seen

-- for bad places, the places where jobs begin, and the number of jobs
pub record IsWorked (bad : ℕ → Type 0) (begins : ℕ → ℕ) (jobs : ℕ) (d : Deeds) : Type 0 where
  pub settled : (job : ℕ) → Contains d.drawn job → IsSettled bad begins d job
  -- each reported place is a bad one
  pub is_bad : (place : ℕ) → Contains d.reported place → bad place
  pub within : (place : ℕ) → Contains d.reported place → place < begins jobs

-- the pass of a worker, before and after its work
pub record IsDone (bad : ℕ → Type 0) (begins : ℕ → ℕ) (jobs : ℕ) (before after : PassState) : Type 0 where
  pub book : after.book ≡ before.book
  pub number : after.number ≡ before.number
  pub ended : after.deeds.ended ≡ true
  pub worked : IsWorked bad begins jobs after.deeds
