-- How a pass is stored: as a seat of that pass alone.
use Rattle.std.specs.Prelude.{List, [], ◌∷◌}
use Rattle.book_core.specs.Passes.{Deeds, fresh}
use Rattle.book_core.specs.Shares.{NumberedPass}
use Rattle.book_live.specs.declared.views.View.{View}

-- what the first pass of a share has done: nothing yet, where the share has no pass
abbrev pub first_deeds : List NumberedPass → Deeds
first_deeds [] = fresh
first_deeds (h ∷ hs) = h.deeds

-- what the pass of a seat has done
abbrev pub deeds_of : View → Deeds
deeds_of v = first_deeds v.held
