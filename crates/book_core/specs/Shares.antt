-- How the passes of a book are shared out: a share is some of the passes, each with its number.
use Rattle.std.specs.Prelude.{◌≡◌, ℕ, zero, suc, ◌==◌, List, [], ◌∷◌, length, slice_get, Some}
use Rattle.std.specs.List.{sum_by, count_by}
use Rattle.book_core.specs.Passes.{Deeds, fresh}
use Rattle.book_core.specs.Books.{Book}
use Rattle.book_core.specs.Jobs.{once_below}

-- a pass: its number, and what it has done
pub record NumberedPass : Type 0 where
  pub number : ℕ
  pub deeds : Deeds

-- the pass of this number, which has done this
abbrev pub numbered_pass : ℕ → Deeds → NumberedPass
numbered_pass w p = record { number = w; deeds = p }

-- how often the number w stands in a share
abbrev pub times_held : ℕ → List NumberedPass → ℕ
times_held w share = count_by (λ h. h.number == w) share

-- each pass of the book stands in one share, once, as the book has it
pub record IsDealt (b : Book) (shares : List (List NumberedPass)) : Type 0 where
  pub numbers : (w : ℕ) → sum_by (times_held w) shares ≡ once_below w (length b.passes)
  pub deeds : (i : ℕ) (share : List NumberedPass) → slice_get shares i ≡ Some share → (k : ℕ) (h : NumberedPass) → slice_get share k ≡ Some h → slice_get b.passes h.number ≡ Some h.deeds

-- n passes that have done nothing, from the number w on
abbrev pub all_fresh : ℕ → ℕ → List NumberedPass
all_fresh w zero = []
all_fresh w (suc n) = numbered_pass w fresh ∷ all_fresh (suc w) n

-- the first pass of a share, by itself
abbrev pub first : List NumberedPass → List NumberedPass
first [] = []
first (h ∷ hs) = h ∷ []

-- the share without its first pass
abbrev pub others : List NumberedPass → List NumberedPass
others [] = []
others (h ∷ hs) = hs

-- the numbers go up by one from w
abbrev pub IsCounted : ℕ → List NumberedPass → Type 0
IsCounted w [] = Unit {0}
IsCounted w (h ∷ hs) = (h.number ≡ w) × IsCounted (suc w) hs
