-- The passes of a new book one by one, and what the closing seat stands for.
use Rattle.std.specs.Prelude.{◌≡◌, ℕ, length, map}
use mathlib.Core.Option.{some}
use lib.ListN.{get_elem?}
use Rattle.atomic_table.specs.Table.{State}
use Rattle.book_core.specs.Passes.{fresh}
use Rattle.book_core.specs.Books.{Book}
use Rattle.book_core.specs.Shares.{NumberedPass, IsCounted}
use Rattle.book_live.specs.declared.views.Sizes.{Sizes}
use Rattle.book_live.specs.declared.views.View.{View}
use Rattle.book_live.specs.Shown.{word_of, IsReachedBook, Shows}
use Rattle.book_live.specs.Callers.{BookId, PassState}

-- a pass of this book and number that has done nothing
abbrev pub IsNewPass : BookId → ℕ → PassState → Type 0
IsNewPass b number p = (p.book ≡ b) × (p.number ≡ number) × (p.deeds ≡ fresh)

-- it has all passes, in the order of their numbers
abbrev pub HoldsAll : Sizes → View → Type 0
HoldsAll z v = (length v.held ≡ z.workers) × IsCounted 0 v.held

-- the machine can reach what the words and the views show, with all passes in this seat, and the least place of this word
pub record IsWhole (z : Sizes) (v : View) (word : ℕ) : Type 0 where
  pub state : State (Unit {0}) View
  pub book : Book
  pub reached : IsReachedBook z book
  pub shows : Shows z book state
  pub seat : ℕ
  pub own : get_elem? state.views seat ≡ some v
  pub done : book.passes ≡ map (λ (h : NumberedPass). h.deeds) v.held
  pub least : word_of book.least ≡ word
