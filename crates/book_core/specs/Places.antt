-- Places: what was reported, and the least of it.
use Rattle.std.specs.Prelude.{◌≡◌, ℕ, ◌≤◌, List, slice_get, Option, Some, None, min, ⊤}
use Rattle.std.specs.List.{Contains}
use Rattle.book_core.specs.Passes.{Deeds}

-- the smaller of the least place so far and one more place
abbrev pub lesser : Option ℕ → ℕ → ℕ
lesser None place = place
lesser (Some least) place = min least place

-- some pass has reported the place
abbrev pub IsReported : List Deeds → ℕ → Type 0
IsReported passes place = (w : ℕ) × (p : Deeds) × (slice_get passes w ≡ Some p) × Contains p.reported place

-- the least of all reported places, or none where nothing was reported
abbrev pub IsLeast : Option ℕ → List Deeds → Type 0
IsLeast None passes = (place : ℕ) → ¬ IsReported passes place
IsLeast (Some least) passes = IsReported passes least × ((place : ℕ) → IsReported passes place → least ≤ place)

-- no place is above none
abbrev pub IsAtMost : Option ℕ → Option ℕ → Type 0
IsAtMost least None = ⊤
IsAtMost None (Some place) = ⊥
IsAtMost (Some least) (Some place) = least ≤ place
