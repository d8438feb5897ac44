-- Bad places, and the fault of a check.
use Rattle.std.specs.Prelude.{ℕ, ◌<◌, ◌≤◌, Option, Some, None}

-- the least bad place from one place up to another, or none where all are good
abbrev pub IsLeastBad : (ℕ → Type 0) → ℕ → ℕ → Option ℕ → Type 0
IsLeastBad bad from end None = (place : ℕ) → from ≤ place → place < end → ¬ bad place
IsLeastBad bad from end (Some least) = (from ≤ least) × (least < end) × bad least × ((place : ℕ) → from ≤ place → place < least → ¬ bad place)

-- the fault of a check of so many places: the least bad one, or none
abbrev pub IsFault : (ℕ → Type 0) → ℕ → Option ℕ → Type 0
IsFault bad places fault = IsLeastBad bad 0 places fault
