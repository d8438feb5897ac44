-- The least of a placement's entries, for the code's own steps.
use Rattle.std.specs.Prelude.{◌≡◌, ◌≢◌, ℕ, ◌<◌, ◌≤◌, ◌⊎◌, List, length, slice_index}
use Rattle.tab_file.specs.EntryBytes.{no_region_entry, no_way_home}

-- the least of the entries that aren't 254, and 255 where there is none
pub record IsLeastEntry (entries : List ℕ) (e : ℕ) : Type 0 where
  pub bound : (j : ℕ) → j < length entries → (slice_index entries j ≡ no_region_entry) ⊎ (e ≤ slice_index entries j)
  pub reached : (e ≡ no_way_home) ⊎ ((j : ℕ) × (j < length entries) × (slice_index entries j ≡ e) × (e ≢ no_region_entry))
