-- What share of its jobs a check has begun, and when that is told.
use Rattle.std.specs.Prelude.{ℕ, ◌+◌, ◌<◌, ◌≤◌, ◌^◌}

-- so many jobs of so many were begun: there are jobs, at most 2 ^ 32, and not more were begun than there are
pub record IsShare (begun jobs : ℕ) : Type 0 where
  pub some : 0 < jobs
  pub few : jobs ≤ 2 ^ 32
  pub within : begun ≤ jobs

-- so many milliseconds lie between two tellings, and before the first one
abbrev pub between_tellings : ℕ
between_tellings = 1000

-- it is time to tell: so long after the last telling, or after the start where nothing was told
abbrev pub IsTime : ℕ → ℕ → Type 0
IsTime told now = told + between_tellings ≤ now
