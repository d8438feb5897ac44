-- A run: the steps of a list of events, one after another, up to the first fault.
use Rattle.std.specs.Prelude.{◌≡◌, ℕ, ◌+◌, ◌<◌, List, [], ◌∷◌, ◌++◌, length, take, fold, Option, Some, None, Ok, Err}
use Rattle.book_core.specs.declared.events.Event.{Event}
use Rattle.book_core.specs.declared.events.Answer.{Answer}
use Rattle.book_core.specs.declared.events.CoreFault.{CoreFault}
use Rattle.book_core.specs.declared.events.CoreFault.TheVariants.{C1, C2, C3, Memory}
use Rattle.book_core.specs.Books.{Book, start}
use Rattle.book_core.specs.Steps.{StepOutcome, step}

-- the book, the answers so far, and the fault that ended the run, if one did
pub record Run : Type 0 where
  pub book : Book
  pub answers : List Answer
  pub fault : Option CoreFault

-- the run after a step with this outcome
abbrev pub after_step : Run → StepOutcome → Run
after_step r (Ok (b, a)) = record { book = b; answers = r.answers ++ a ∷ []; fault = None }
after_step r (Err f) = record r { fault = Some f }

-- a fault ends the run
abbrev pub unless_ended : Option CoreFault → Run → Event → Run
unless_ended None r e = after_step r (step r.book e)
unless_ended (Some f) r e = r

-- the run after one more event
abbrev pub run_on : Run → Event → Run
run_on r e = unless_ended r.fault r e

-- a run without a fault so far
abbrev pub going : Book → List Answer → Run
going b answers = record { book = b; answers = answers; fault = None }

-- the run of these events from a book
abbrev pub run_from : Book → List Event → Run
run_from b events = fold run_on (going b []) events

-- the run of these events from the start
abbrev pub run_after : ℕ → ℕ → List Event → Run
run_after jobs workers events = run_from (start jobs workers) events

-- the run stops at event number i: its fault is the first, and i events were answered before it.
-- For want of memory the events go on without a fault up to that one.
abbrev pub StopsAt : Book → List Event → ℕ → CoreFault → Type 0
StopsAt b events i C1 = ((run_from b events).fault ≡ Some C1) × (length (run_from b events).answers ≡ i)
StopsAt b events i C2 = ((run_from b events).fault ≡ Some C2) × (length (run_from b events).answers ≡ i)
StopsAt b events i C3 = ((run_from b events).fault ≡ Some C3) × (length (run_from b events).answers ≡ i)
StopsAt b events i Memory = ((run_from b (take (i + 1) events)).fault ≡ None) × (i < length events)
