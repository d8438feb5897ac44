-- The state of a book: how many jobs there are and were claimed, the least place, and what each pass has done.
use Rattle.std.specs.Prelude.{◌≡◌, ℕ, ◌<◌, ◌≤◌, List, length, replicate, Option, None}
use Rattle.std.specs.List.{count_by}
use Rattle.book_core.specs.Passes.{Deeds, fresh}

-- the state of a book
pub record Book : Type 0 where
  -- how many jobs there are: the numbers below this
  pub jobs : ℕ
  -- how many claims there were
  pub next : ℕ
  -- the least place reported so far, or none
  pub least : Option ℕ
  -- the passes, by their numbers
  pub passes : List Deeds

-- a book of so many jobs and passes, before the first event
abbrev pub start : ℕ → ℕ → Book
start jobs workers = record { jobs = jobs; next = 0; least = None; passes = replicate workers fresh }

-- as many jobs and passes as before
abbrev pub SameSizes : Book → Book → Type 0
SameSizes old new = (new.jobs ≡ old.jobs) × (length new.passes ≡ length old.passes)

-- how many passes have ended
abbrev pub ended_count : List Deeds → ℕ
ended_count passes = count_by (λ p. p.ended) passes

-- at most so many workers share a book
abbrev pub most_workers : ℕ
most_workers = 64

-- so many workers may share a book, each with a pass of its own
abbrev pub AreWorkers : ℕ → Type 0
AreWorkers count = (0 < count) × (count ≤ most_workers)
