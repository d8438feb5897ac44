-- Bundles whose tables have edge words.
use Rattle.std.specs.Prelude.{◌≡◌, ℕ, ◌<◌, ◌≤◌, false, List, length, slice_get, slice_index_or, Some}
use Rattle.pat_place.specs.Patterns.{ShownPattern}
use Rattle.edge_words.specs.Words.{ShownWords}
use Rattle.set_sum.specs.Bundles.{ShownBundle}
use Rattle.set_sum.specs.Parts.{no_part}

-- the most tables of such a bundle
abbrev pub most_worded : ℕ
most_worded = 8

-- the pattern of a table, by its number
abbrev pub pattern_at : ShownBundle → ℕ → ShownPattern
pattern_at v table = record { side = v.side; tiles = (slice_index_or v.tables table no_part).tiles }

-- the table with this number isn't folded, and the words with this number are those of its pattern
pub record HasWords (v : ShownBundle) (words : List ShownWords) (table : ℕ) : Type 0 where
  pub full : (slice_index_or v.tables table no_part).is_folded ≡ false
  pub pattern : (w : ShownWords) → slice_get words table ≡ Some w → w.pattern ≡ pattern_at v table

-- each of the tables has its words, and there are not too many
pub record HaveWords (v : ShownBundle) (words : List ShownWords) : Type 0 where
  pub few : length v.tables ≤ most_worded
  pub size : length words ≡ length v.tables
  pub each : (table : ℕ) → table < length v.tables → HasWords v words table
