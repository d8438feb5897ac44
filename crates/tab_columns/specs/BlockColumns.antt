-- The columns of a block, and what they say of its entries.
use Rattle.std.specs.Prelude.{◌≡◌, ℕ, ◌+◌, ◌<◌, ◌≤◌, List, length, slice_index}
use Rattle.tab_file.specs.Tables.{Table, entry_count}
use Rattle.tab_rule.specs.Blocks.{IsInBlock, first_of_block}
use Rattle.tab_rule.specs.Entries.{IsEntryNumber}
use Rattle.tab_rule.specs.LocalRule.{IsKindOf, IsLeastNear}
use Rattle.tab_columns.specs.Columns.{most_entries}

-- the entry with this number is one of a placement and a slot: its slot has this kind, and this is the least entry one move away
pub record IsDescribed (t : Table) (number kind least : ℕ) : Type 0 where
  pub cells : List ℕ
  pub slot : ℕ
  pub is_number : IsEntryNumber t.pattern cells slot number
  pub is_kind : IsKindOf t.pattern cells slot kind
  pub is_least : IsLeastNear t cells slot least

-- the block has so many entries from this number on, and the columns describe them
pub record AreBlockColumns (t : Table) (block begin len : ℕ) (kinds least : List ℕ) : Type 0 where
  pub begins : begin ≡ first_of_block t.pattern block
  pub within : begin + len ≤ length t.entries
  pub few : len ≤ most_entries
  pub kinds_len : length kinds ≡ most_entries
  pub least_len : length least ≡ most_entries
  pub each : (i : ℕ) → i < len → IsInBlock t.pattern block (begin + i) × IsDescribed t (begin + i) (slice_index kinds i) (slice_index least i)
  pub all : (number : ℕ) → IsInBlock t.pattern block number → number < entry_count t.pattern → number < begin + len
