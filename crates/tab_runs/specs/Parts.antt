-- Parts of a table: the entries from one number up to another.
use Rattle.std.specs.Prelude.{◌≡◌, ℕ, ◌*◌, ◌<◌, ◌≤◌, List}
use Rattle.tab_rule.specs.BadEntries.{IsBad, KeepsRule}
use Rattle.tab_file.specs.Tables.{Table, slot_count}
use Rattle.tab_runs.specs.RunPlaces.{IsFirstRank}

-- each of them keeps the rule
abbrev pub EntriesKeepRule : Table → ℕ → ℕ → Type 0
EntriesKeepRule t low high = (number : ℕ) → low ≤ number → number < high → KeepsRule t number

-- the entry with this number is the first of them that is bad
pub record IsFirstBadEntry (t : Table) (low high number : ℕ) : Type 0 where
  pub from : low ≤ number
  pub to : number < high
  pub bad : IsBad t number
  pub before : EntriesKeepRule t low number

-- so many entries are before those of the run
pub record IsBeforeRun (t : Table) (p : List ℕ) (before : ℕ) : Type 0 where
  pub first : ℕ
  pub is_first : IsFirstRank t.pattern.side p first
  pub counted : before ≡ first * slot_count t.pattern
