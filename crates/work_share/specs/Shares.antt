-- What the jobs of a task gave. Here `gives` says what a job may give.
use Rattle.std.specs.Prelude.{◌≡◌, ℕ, ◌<◌, IfSome, List, length, Option, slice_index_or}
use Rattle.std.specs.List.{All}
use Rattle.work_share.specs.declared.draws.Done.{Done}

-- as many outcomes as there are jobs, each what the job of its number gives
abbrev pub AreOutcomes : {O : Type 0} → (ℕ → O → Type 0) → ℕ → List O → Type 0
AreOutcomes {O} gives jobs outcomes =
    (length outcomes ≡ jobs) × ((job : ℕ) (other : O) → job < jobs → gives job (slice_index_or outcomes job other))

-- ---- what proofs alone need

-- each was given by a job of the task
abbrev pub AreDone : {O : Type 0} → (ℕ → O → Type 0) → ℕ → List (Done O) → Type 0
AreDone gives jobs done = All (λ d. (d.job < jobs) × gives d.job d.outcome) done

-- what stands in a place was given by the job of its number
abbrev pub ArePlaced : {O : Type 0} → (ℕ → O → Type 0) → List (Option O) → Type 0
ArePlaced {O} gives places = (job : ℕ) (other : Option O) → job < length places → IfSome (slice_index_or places job other) (gives job)
