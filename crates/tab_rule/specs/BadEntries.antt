-- Bad entries: those that break the local rule, by their numbers.
use Rattle.std.specs.Prelude.{ℕ, ◌≤◌, List, slice_index}
use Rattle.tab_file.specs.Tables.{Table}
use Rattle.tab_rule.specs.Entries.{IsEntryNumber}
use Rattle.tab_rule.specs.LocalRule.{LocalRule}

-- the entry with this number keeps the rule
abbrev pub KeepsRule : Table → ℕ → Type 0
KeepsRule t number =
    (cells : List ℕ) (j : ℕ) → IsEntryNumber t.pattern cells j number → LocalRule t cells j (slice_index t.entries number)

-- each entry keeps the rule
abbrev pub AllKeepRule : Table → Type 0
AllKeepRule t = (number : ℕ) → KeepsRule t number

-- the entry with this number breaks the rule
pub record IsBad (t : Table) (number : ℕ) : Type 0 where
  pub cells : List ℕ
  pub slot : ℕ
  pub is_number : IsEntryNumber t.pattern cells slot number
  pub breaks : ¬ LocalRule t cells slot (slice_index t.entries number)

-- it is bad, and none with a smaller number is
pub record IsLeastBadEntry (t : Table) (number : ℕ) : Type 0 where
  pub bad : IsBad t number
  pub least : (other : ℕ) → IsBad t other → number ≤ other
