-- One step of a book: what an event is answered, and the book after it, or why it is refused.
use Rattle.std.specs.Prelude.{◌≡◌, ℕ, ◌+◌, ◌^◌, if◌then◌else◌, nat_lt, slice_get, slice_set, Option, Some, None, Result, Ok, Err, IsOk, ⊤}
use Rattle.book_core.specs.declared.events.Event.{Event}
use Rattle.book_core.specs.declared.events.Event.TheVariants.{Claim, Report, Look}
use Rattle.book_core.specs.declared.events.Answer.{Answer}
use Rattle.book_core.specs.declared.events.Answer.TheVariants.{Drawn, Ended, Reported, Least}
use Rattle.book_core.specs.declared.events.CoreFault.{CoreFault}
use Rattle.book_core.specs.declared.events.CoreFault.TheVariants.{C1, C2, C3, Memory}
use Rattle.book_core.specs.Passes.{Deeds, with_drawn, with_end, with_report, with_seen}
use Rattle.book_core.specs.Books.{Book}
use Rattle.book_core.specs.Places.{lesser}

-- the number of the pass that asks
abbrev pub pass_of : Event → ℕ
pass_of (Claim w) = w
pass_of (Report w place) = w
pass_of (Look w) = w

-- the book after the next job was drawn by the pass w, which had done p
abbrev pub drawn_by : Book → ℕ → Deeds → Book
drawn_by b w p = record b { next = b.next + 1; passes = slice_set b.passes w (with_drawn p b.next) }

-- the book after a claim that ended the pass w, which had done p
abbrev pub ended_by : Book → ℕ → Deeds → Book
ended_by b w p = record b { next = b.next + 1; passes = slice_set b.passes w (with_end p) }

-- the book after a place was reported by the pass w, which had done p
abbrev pub reported_by : Book → ℕ → ℕ → Deeds → Book
reported_by b w place p = record b { least = Some (lesser b.least place); passes = slice_set b.passes w (with_report p place) }

-- the book after a look of the pass w, which had done p
abbrev pub looked_by : Book → ℕ → Deeds → Book
looked_by b w p = record b { passes = slice_set b.passes w (with_seen p b.least) }

-- what a step comes to: the book after it and the answer, or why it is refused
abbrev pub StepOutcome : Type 0
StepOutcome = Result (Book × Answer) CoreFault

-- a claim draws the job next where there is one, and ends the pass where there is none
abbrev pub claims : Book → ℕ → Deeds → StepOutcome
claims b w p =
    if p.ended then Err C2 else
    (if nat_lt b.next b.jobs then Ok (drawn_by b w p, Drawn b.next) else Ok (ended_by b w p, Ended))

-- a report takes a place below 2 ^ 32
abbrev pub reports : Book → ℕ → ℕ → Deeds → StepOutcome
reports b w place p = if nat_lt place (2 ^ 32) then Ok (reported_by b w place p, Reported) else Err C3

-- a look shows the least place reported so far
abbrev pub looks : Book → ℕ → Deeds → StepOutcome
looks b w p = Ok (looked_by b w p, Least b.least)

-- what the pass asks, where there is such a pass
abbrev pub by_pass : Option Deeds → (Deeds → StepOutcome) → StepOutcome
by_pass None act = Err C1
by_pass (Some p) act = act p

-- what an event comes to in a book
abbrev pub step : Book → Event → StepOutcome
step b (Claim w) = by_pass (slice_get b.passes w) (claims b w)
step b (Report w place) = by_pass (slice_get b.passes w) (reports b w place)
step b (Look w) = by_pass (slice_get b.passes w) (looks b w)

-- the event is refused for this reason: want of memory comes after all others
abbrev pub IsRefusal : Book → Event → CoreFault → Type 0
IsRefusal b e C1 = step b e ≡ Err C1
IsRefusal b e C2 = step b e ≡ Err C2
IsRefusal b e C3 = step b e ≡ Err C3
IsRefusal b e Memory = IsOk (step b e)

-- the answer to an event that made the list of a pass longer
abbrev pub TakesRoom : Answer → Type 0
TakesRoom (Drawn job) = ⊤
TakesRoom Reported = ⊤
TakesRoom Ended = ⊥
TakesRoom (Least place) = ⊥
