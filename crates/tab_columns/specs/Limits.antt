-- Blocks of a table that ends at a count.
use Rattle.std.specs.Prelude.{ℕ}
use Rattle.tab_file.specs.Tables.{Table}
use Rattle.tab_rule.specs.Blocks.{IsInBlock}
use Rattle.tab_rule.specs.Limits.{EntryKeepsUpTo, IsPastEntry}

-- each entry of the block keeps the rule up to the count
abbrev pub BlockKeepsUpTo : ℕ → Table → ℕ → Type 0
BlockKeepsUpTo most t block = (number : ℕ) → IsInBlock t.pattern block number → EntryKeepsUpTo most t number

-- some entry of the block is past it
pub record BlockIsPast (most : ℕ) (t : Table) (block : ℕ) : Type 0 where
  pub number : ℕ
  pub in_block : IsInBlock t.pattern block number
  pub past : IsPastEntry most t number
