-- Counts among the bytes of a column.
use Rattle.std.specs.Prelude.{◌≡◌, ℕ, ◌<◌, ◌≤◌, ◌⊎◌, List, slice_index}
use Rattle.tab_file.specs.EntryBytes.{greatest_count}

-- the greatest count among the first bytes, and 0 where there is none
pub record IsGreatestCount (bytes : List ℕ) (first m : ℕ) : Type 0 where
  pub most : m ≤ greatest_count
  pub bound : (i : ℕ) → i < first → slice_index bytes i ≤ greatest_count → slice_index bytes i ≤ m
  pub reached : (m ≡ 0) ⊎ ((i : ℕ) × (i < first) × (slice_index bytes i ≡ m))
