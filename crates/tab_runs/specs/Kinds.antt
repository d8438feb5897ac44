-- Which slots of a run's placements have a region, a byte for each entry of the run.
use Rattle.std.specs.Prelude.{◌≡◌, ℕ, ◌+◌, ◌*◌, ◌<◌, ◌⊎◌, ◌↔◌, true, List, slice_index}
use Rattle.std.specs.Int.{bit_at}
use Rattle.pat_place.specs.Patterns.{has}
use Rattle.pat_place.specs.Placements.{IsFree}
use Rattle.tab_rule.specs.Entries.{HasNoRegion, HasRegion}
use Rattle.tab_file.specs.EntryRules.{other_slot, without_region}
use Rattle.tab_runs.specs.Runs.{free_below, with_last}

-- the byte says whether the slot has a region
abbrev pub TellsRegion : ℕ → List ℕ → ℕ → ℕ → Type 0
TellsRegion n cells j kind = ((kind ≡ without_region) × HasNoRegion n cells j) ⊎ ((kind ≡ other_slot) × HasRegion n cells j)

-- the bytes say it of each slot of the run's placements, of which there are w each
abbrev pub TellRegions : ℕ → ℕ → List ℕ → List ℕ → Type 0
TellRegions n w p kinds = (c j : ℕ) → IsFree n p c → j < w → TellsRegion n (with_last p c) j (slice_index kinds (free_below p c * w + j))

-- the same for a set of cells as a mask: the order of the cells is all the same
abbrev pub TellRegionsOf : ℕ → ℕ → ℕ → List ℕ → Type 0
TellRegionsOf n w mask kinds = (p : List ℕ) → ((y : ℕ) → (bit_at mask y ≡ 1) ↔ (has p y ≡ true)) → TellRegions n w p kinds
