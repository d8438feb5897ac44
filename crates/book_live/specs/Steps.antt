-- The five kinds of step, what each makes of the words and the views, and what it tells the pass that takes it.
use Rattle.std.specs.Prelude.{◌≡◌, ℕ, ◌+◌, ◌<◌, ◌^◌, [], ◌∷◌, ◌++◌, false, if◌then◌else◌, nat_lt, min, slice_index, slice_set, Option, Some, None, Ok, ⊤}
use mathlib.Core.Option.{some}
use lib.ListN.{get_elem?}
use Rattle.atomic_table.specs.Table.{State}
use Rattle.atomic_table.specs.Table as table
use Rattle.book_core.specs.declared.events.Event.{Event}
use Rattle.book_core.specs.declared.events.Event.TheVariants.{Claim, Report, Look}
use Rattle.book_core.specs.declared.events.Answer.{Answer}
use Rattle.book_core.specs.declared.events.Answer.TheVariants.{Drawn, Ended, Reported, Least}
use Rattle.book_core.specs.Passes.{Deeds, with_drawn, with_end, with_report, with_seen}
use Rattle.book_core.specs.Books.{Book}
use Rattle.book_core.specs.Steps.{step, pass_of}
use Rattle.book_live.specs.declared.views.Sizes.{Sizes}
use Rattle.book_live.specs.declared.views.View.{View}
use Rattle.book_live.specs.Views.{alone, opening, first_alone, without_first, together, spent}
use Rattle.book_live.specs.Shown.{place_in_word, IsReachedBook, Shows}

-- ---- the steps that are an event of the machine

-- the word of an event: claims are counted in the first, and the second has the least place
abbrev pub word_at : Event → ℕ
word_at (Claim w) = 0
word_at (Report w place) = 1
word_at (Look w) = 1

-- what the event makes of its word
abbrev pub word_after : Event → ℕ → ℕ
word_after (Claim w) n = n + 1
word_after (Report w place) n = min n place
word_after (Look w) n = n

-- a pass that did p may take the event
abbrev pub MayTake : Deeds → Event → Type 0
MayTake p (Claim w) = p.ended ≡ false
MayTake p (Report w place) = place < 2 ^ 32
MayTake p (Look w) = ⊤

-- the answer, by the number that was found in the word
abbrev pub answer_to : Sizes → Event → ℕ → Answer
answer_to z (Claim w) n = (if nat_lt n z.jobs then Drawn n else Ended)
answer_to z (Report w place) n = Reported
answer_to z (Look w) n = Least (place_in_word n)

-- what a pass that did p has done after the event, by the number that was found in the word
abbrev pub deeds_after : Sizes → Event → ℕ → Deeds → Deeds
deeds_after z (Claim w) n p = (if nat_lt n z.jobs then with_drawn p n else with_end p)
deeds_after z (Report w place) n p = with_report p place
deeds_after z (Look w) n p = with_seen p (place_in_word n)

-- the word of an event in a state of the table
abbrev pub found_by : {S : Type 0} → Event → State S View → ℕ
found_by e s = slice_index s.words (word_at e)

-- the table after the event: its word, and the view of one seat
abbrev pub state_after : {S : Type 0} → Event → State S View → ℕ → View → State S View
state_after e s seat v = record { words = slice_set s.words (word_at e) (word_after e (found_by e s)); homes = s.homes; views = slice_set s.views seat v }

-- the event leads the machine to a book with this answer, and that book is shown once the word has changed and the pass has come to q
abbrev pub Moves : {S : Type 0} → Sizes → Book → State S View → ℕ → Event → Answer → Deeds → Type 0
Moves z b s seat e a q = (c : Book) × (step b e ≡ Ok (c, a)) × Shows z c (state_after e s seat (alone z (pass_of e) q))

-- the event moves what is shown, with the answer and the deeds that the number in its word says
abbrev pub ShowsEvent : {S : Type 0} → Sizes → Book → State S View → ℕ → Event → Deeds → Type 0
ShowsEvent z b s seat e p = Moves z b s seat e (answer_to z e (found_by e s)) (deeds_after z e (found_by e s) p)

-- A pass that had done `before` took the event in one step, was given the answer, and has then done `after`:
-- the words and the views showed a book, and then the book to which the event leads.
pub record IsOneStep (z : Sizes) (e : Event) (before : Deeds) (a : Answer) (after : Deeds) : Type 0 where
  -- the words and the views when the step was taken, and the book that they showed
  pub state : State (Unit {0}) View
  pub book : Book
  pub reached : IsReachedBook z book
  pub shows : Shows z book state
  -- the seat of the pass
  pub seat : ℕ
  pub own : get_elem? state.views seat ≡ some (alone z (pass_of e) before)
  pub moves : Moves z book state seat e a after

-- what a claim is told, by the job that it answers
abbrev pub claim_answer : Option ℕ → Answer
claim_answer (Some job) = Drawn job
claim_answer None = Ended

-- ---- the steps that are none: they change no word

-- the table when a book is opened: no claim, no place, and one seat for all passes
abbrev pub opened : {S : Type 0} → Sizes → State S View
opened z = table.opening (0 ∷ 2 ^ 32 ∷ []) [] (opening z)

-- a seat with the view v is cut: a new one takes its first pass
abbrev pub made : {S : Type 0} → State S View → ℕ → View → State S View
made s seat v = record { words = s.words; homes = s.homes; views = slice_set s.views seat (without_first v) ++ first_alone v ∷ [] }

-- a seat with the view v takes in the passes of another with the view u
abbrev pub taken_in : {S : Type 0} → State S View → ℕ → View → ℕ → View → State S View
taken_in s seat v other u = record { words = s.words; homes = s.homes; views = slice_set (slice_set s.views seat (together v u)) other spent }
