-- Bundles whose tables can have edge words.
use Rattle.std.specs.Prelude.{◌≡◌, ℕ, ◌<◌, ◌≤◌, false, length, slice_index_or}
use Rattle.puz_board.specs.Masks.{numbers_of}
use Rattle.edge_words.specs.Indexes.{index_count, most_words}
use Rattle.set_sum.specs.Bundles.{ShownBundle}
use Rattle.set_sum.specs.Parts.{ShownPart, no_part}
use Rattle.puz_walk.specs.WordBundles.{most_worded, pattern_at}

-- the table of the pattern whose tiles are the numbers of a mask, not folded
abbrev pub full_part : ℕ → ShownPart
full_part mask = record { tiles = numbers_of mask; is_folded = false }

-- the table with this number isn't folded, and its pattern has no more indexes than there may be words
pub record CanTableHaveWords (v : ShownBundle) (table : ℕ) : Type 0 where
  pub full : (slice_index_or v.tables table no_part).is_folded ≡ false
  pub few : index_count (pattern_at v table) ≤ most_words

-- each table is so, and there are not too many
pub record CanHaveWords (v : ShownBundle) : Type 0 where
  pub few : length v.tables ≤ most_worded
  pub each : (table : ℕ) → table < length v.tables → CanTableHaveWords v table
