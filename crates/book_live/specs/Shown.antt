-- The rule of a live book: its two words and the views of its seats show a state of the book as a machine.
use Rattle.std.specs.Prelude.{◌≡◌, ℕ, ◌≤◌, ◌^◌, if◌then◌else◌, nat_lt, List, length, slice_index, Option, Some, None}
use Rattle.atomic_table.specs.Table.{State}
use Rattle.book_core.specs.declared.events.Event.{Event}
use Rattle.book_core.specs.declared.events.Answer.{Answer}
use Rattle.book_core.specs.Books.{Book, most_workers}
use Rattle.book_core.specs.Runs.{going, run_after}
use Rattle.book_core.specs.Shares.{IsDealt}
use Rattle.book_live.specs.declared.views.Sizes.{Sizes}
use Rattle.book_live.specs.declared.views.View.{View}
use Rattle.book_live.specs.Views.{shares}

-- some list of events leads the machine from its start to this book, without a fault
abbrev pub IsReachedBook : Sizes → Book → Type 0
IsReachedBook z b = (events : List Event) × (answers : List Answer) × (run_after z.jobs z.workers events ≡ going b answers)

-- the word that stands for a place, or for none, which is above all places
abbrev pub word_of : Option ℕ → ℕ
word_of None = 2 ^ 32
word_of (Some place) = place

-- the place that a word stands for, if it stands for one
abbrev pub place_in_word : ℕ → Option ℕ
place_in_word word = (if nat_lt word (2 ^ 32) then Some word else None)

-- there are at most 2 ^ 32 jobs, and no more passes than a book has workers at most
abbrev pub IsInLimits : Sizes → Type 0
IsInLimits z = (z.jobs ≤ 2 ^ 32) × (z.workers ≤ most_workers)

-- the words and the views show this book: each of its passes stands in the view of one seat
pub record Shows {S : Type 0} (z : Sizes) (b : Book) (s : State S View) : Type 0 where
  pub limits : IsInLimits z
  pub words : length s.words ≡ 2
  pub next : slice_index s.words 0 ≡ b.next
  pub least : slice_index s.words 1 ≡ word_of b.least
  pub dealt : IsDealt b (shares s.views)

-- the words and the views show a book to which some list of events leads
abbrev pub Shown : {S : Type 0} → Sizes → State S View → Type 0
Shown z s = (b : Book) × IsReachedBook z b × Shows z b s
