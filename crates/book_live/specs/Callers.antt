-- A book and its passes, as callers see them.
use Rattle.std.specs.Prelude.{◌≡◌, ℕ, ◌+◌, List, length, map, slice_get, Option, Some}
use mathlib.Core.Option.{some}
use lib.ListN.{get_elem?}
use Rattle.atomic_table.specs.Seated.{TableId}
use Rattle.atomic_table.specs.Table.{State}
use Rattle.book_core.specs.Passes.{Deeds}
use Rattle.book_core.specs.Books.{Book, start}
use Rattle.book_core.specs.Jobs.{times_drawn, once_below}
use Rattle.book_core.specs.Shares.{NumberedPass, numbered_pass}
use Rattle.book_live.specs.declared.views.Sizes.{Sizes}
use Rattle.book_live.specs.declared.views.View.{View}
use Rattle.book_live.specs.Views.{view, alone}
use Rattle.book_live.specs.Shown.{IsReachedBook, Shows}

-- which book it is, and how many jobs and passes it has
pub record BookId : Type 0 where
  pub table : TableId
  pub sizes : Sizes

-- the book of a pass, its number there, and what it has done
pub record PassState : Type 0 where
  pub book : BookId
  pub number : ℕ
  pub deeds : Deeds

-- all passes of the book, in the order of their numbers, with a fact of each
pub record ArePasses (b : BookId) (P : PassState → Type 0) (passes : List PassState) : Type 0 where
  pub count : length passes ≡ b.sizes.workers
  pub each : (k : ℕ) (p : PassState) → slice_get passes k ≡ Some p → (p.book ≡ b) × (p.number ≡ k) × P p

-- what each of the passes has done, in the same order
abbrev pub all_deeds : List PassState → List Deeds
all_deeds passes = map (λ p. p.deeds) passes

-- each job was drawn by one of the passes, once
abbrev pub IsEachDrawnOnce : BookId → List PassState → Type 0
IsEachDrawnOnce b passes = (job : ℕ) → times_drawn job (all_deeds passes) ≡ once_below job b.sizes.jobs

-- some list of events leads the machine to what the passes have done, with this least place
abbrev pub IsOutcome : BookId → List PassState → Option ℕ → Type 0
IsOutcome b passes least = (next : ℕ) × IsReachedBook b.sizes (record { jobs = b.sizes.jobs; next = next; least = least; passes = all_deeds passes })

-- The words and the views of a new book show the start of the machine, and each of these passes has a seat of its own.
-- The seat 0, from which theirs were cut, is left with no pass.
pub record ShowsStart (b : BookId) (passes : List PassState) : Type 0 where
  pub state : State (Unit {0}) View
  pub shows : Shows b.sizes (start b.sizes.jobs b.sizes.workers) state
  pub own : (k : ℕ) (p : PassState) → slice_get passes k ≡ Some p → get_elem? state.views (k + 1) ≡ some (alone b.sizes p.number p.deeds)

-- the share of these passes: the number of each, and what it has done
abbrev pub numbered_passes : List PassState → List NumberedPass
numbered_passes passes = map (λ p. numbered_pass p.number p.deeds) passes

-- The words and the views of a book at its end show what some list of events leads the machine to:
-- one seat has all of these passes, with what they have done, and the word has this least place.
pub record ShowsEnd (b : BookId) (passes : List PassState) (place : Option ℕ) : Type 0 where
  pub state : State (Unit {0}) View
  pub book : Book
  pub reached : IsReachedBook b.sizes book
  pub shows : Shows b.sizes book state
  pub seat : ℕ
  pub own : get_elem? state.views seat ≡ some (view b.sizes (numbered_passes passes))
  pub done : book.passes ≡ all_deeds passes
  pub least : book.least ≡ place
