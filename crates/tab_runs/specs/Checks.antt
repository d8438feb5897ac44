-- Checks of a run: its entries against the least near entries, by the kinds of their slots.
use Rattle.std.specs.Prelude.{ℕ, ◌+◌, ◌*◌, ◌<◌, ◌≤◌, List, slice_index}
use Rattle.pat_place.specs.Placements.{IsFree}
use Rattle.tab_rule.specs.BadEntries.{IsBad, KeepsRule}
use Rattle.tab_rule.specs.LocalRule.{IsKindOf}
use Rattle.tab_file.specs.Tables.{Table, slot_count}
use Rattle.tab_runs.specs.RunPlaces.{IsFirstRank, run_length}
use Rattle.tab_runs.specs.Runs.{free_below, with_last}

-- the kinds of the slots of a run's placements, side by side
abbrev pub AreKinds : Table → List ℕ → List ℕ → Type 0
AreKinds t p kinds =
    (c j : ℕ) → IsFree t.pattern.side p c → j < slot_count t.pattern →
    IsKindOf t.pattern (with_last p c) j (slice_index kinds (free_below p c * slot_count t.pattern + j))

-- the entries of a run have the places from one up to another
pub record ArePlacesOf (t : Table) (p : List ℕ) (from to : ℕ) : Type 0 where
  pub low : from ≤ to
  pub high : to ≤ run_length t.pattern.side p * slot_count t.pattern

-- the entries of a run from one place up to another keep the rule
abbrev pub RunKeepsRule : Table → List ℕ → ℕ → ℕ → Type 0
RunKeepsRule t p low high =
    (first : ℕ) → IsFirstRank t.pattern.side p first → (place : ℕ) → low ≤ place → place < high →
    KeepsRule t (first * slot_count t.pattern + place)

-- the entry of this place is bad, and those from `low` on before it keep the rule
pub record IsFirstBadPlace (t : Table) (p : List ℕ) (low high place : ℕ) : Type 0 where
  pub from : low ≤ place
  pub to : place < high
  pub bad : (first : ℕ) → IsFirstRank t.pattern.side p first → IsBad t (first * slot_count t.pattern + place)
  pub before : RunKeepsRule t p low place
