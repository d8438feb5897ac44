-- What one pass has done.
use Rattle.std.specs.Prelude.{ℕ, Bool, true, false, List, [], ◌∷◌, ◌++◌, Option, None}

-- what a pass has done
pub record Deeds : Type 0 where
  -- the jobs that it drew, in this order
  pub drawn : List ℕ
  -- the places that it reported, in this order
  pub reported : List ℕ
  -- the least place that its last look showed, if it showed one
  pub seen : Option ℕ
  -- whether a claim of it found no job left
  pub ended : Bool

-- nothing yet
abbrev pub fresh : Deeds
fresh = record { drawn = []; reported = []; seen = None; ended = false }

-- the pass has drawn this job as well, after the others
abbrev pub with_drawn : Deeds → ℕ → Deeds
with_drawn p job = record p { drawn = p.drawn ++ job ∷ [] }

-- the pass has ended
abbrev pub with_end : Deeds → Deeds
with_end p = record p { ended = true }

-- the pass has reported this place as well, after the others
abbrev pub with_report : Deeds → ℕ → Deeds
with_report p place = record p { reported = p.reported ++ place ∷ [] }

-- the last look of the pass has shown this place, or none
abbrev pub with_seen : Deeds → Option ℕ → Deeds
with_seen p least = record p { seen = least }
