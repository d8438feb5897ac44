-- Blocks of a table: the entries of equally many placements each, in the order of their ranks. The last block may have fewer.
use Rattle.std.specs.Prelude.{ℕ, ◌+◌, ◌-◌, ◌*◌, ◌/◌, ◌<◌, ◌≤◌}
use Rattle.pat_place.specs.Patterns.{ShownPattern}
use Rattle.tab_file.specs.Tables.{Table, placement_count, slot_count}
use Rattle.tab_rule.specs.BadEntries.{IsBad, KeepsRule}

-- how many placements a block has
abbrev pub block_ranks : ℕ
block_ranks = 256

-- how many blocks there are
abbrev pub block_count : ShownPattern → ℕ
block_count p = (placement_count p + (block_ranks - 1)) / block_ranks

-- the number of a block's first entry
abbrev pub first_of_block : ShownPattern → ℕ → ℕ
first_of_block p block = block * block_ranks * slot_count p

-- the block has the entry with this number
pub record IsInBlock (p : ShownPattern) (block number : ℕ) : Type 0 where
  pub from : first_of_block p block ≤ number
  pub to : number < first_of_block p (block + 1)

-- each entry of the block keeps the rule
abbrev pub BlockKeepsRule : Table → ℕ → Type 0
BlockKeepsRule t block = (number : ℕ) → IsInBlock t.pattern block number → KeepsRule t number

-- each block does
abbrev pub AllBlocksKeepRule : Table → Type 0
AllBlocksKeepRule t = (block : ℕ) → block < block_count t.pattern → BlockKeepsRule t block

-- the entry with this number is bad, and none of the block with a smaller number is
pub record IsLeastBadIn (t : Table) (block number : ℕ) : Type 0 where
  pub in_block : IsInBlock t.pattern block number
  pub bad : IsBad t number
  pub least : (other : ℕ) → IsInBlock t.pattern block other → IsBad t other → number ≤ other
