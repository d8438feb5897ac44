-- What a seat shows: its share of the passes of the book.
use Rattle.std.specs.Prelude.{ℕ, List, [], ◌∷◌, ◌++◌, map}
use Rattle.book_core.specs.Passes.{Deeds}
use Rattle.book_core.specs.Shares.{NumberedPass, numbered_pass, all_fresh, first, others}
use Rattle.book_live.specs.declared.views.Sizes.{Sizes}
use Rattle.book_live.specs.declared.views.View.{View}

-- a seat that has this share of the passes of a book with these sizes
abbrev pub view : Sizes → List NumberedPass → View
view z share = record { sizes = z; held = share }

-- the share that each of the seats has
abbrev pub shares : List View → List (List NumberedPass)
shares views = map (λ v. v.held) views

-- a seat of one pass
abbrev pub alone : Sizes → ℕ → Deeds → View
alone z number p = view z (numbered_pass number p ∷ [])

-- the first seat has all passes
abbrev pub opening : Sizes → View
opening z = view z (all_fresh 0 z.workers)

-- a new seat takes the first pass of another
abbrev pub first_alone : View → View
first_alone v = view v.sizes (first v.held)

-- the seat from which the first pass was taken keeps the others
abbrev pub without_first : View → View
without_first v = view v.sizes (others v.held)

-- a seat takes in the passes of another, of which nothing is left
abbrev pub together : View → View → View
together v w = view v.sizes (v.held ++ w.held)

-- what is left of a seat whose passes another took in: no pass, and sizes of 0
abbrev pub spent : View
spent = view (record { jobs = 0; workers = 0 }) []
