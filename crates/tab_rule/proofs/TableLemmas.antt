-- The entries of a table together.
use Rattle.std.proofs.Common.{◌≡◌, ℕ, ◌+◌, ◌*◌, ◌/◌, ◌<◌, ◌≤◌, List, inl, inr, arith}
use Rattle.std.specs.Prelude.{slice_index}
use Rattle.std.proofs.Math.Nat.{mul-le-mul_right}
use Rattle.pat_place.specs.Patterns.{ShownPattern, IsPattern}
use Rattle.tab_file.specs.Tables.{Table, IsTable, entry_count, placement_count, slot_count}
use Rattle.tab_rule.specs.BadEntries.{AllKeepRule, IsBad, IsLeastBadEntry, KeepsRule}
use Rattle.tab_rule.specs.Blocks.{AllBlocksKeepRule, IsInBlock, block_count}
use Rattle.tab_rule.specs.Entries.{IsEntryNumber}
use Rattle.tab_rule.specs.ExactTables.{AreExact}
use Rattle.tab_rule.proofs.DecidedLemmas.{rule_decided}
use Rattle.tab_rule.proofs.EntryNumberLemmas.{entry_placement, entry_rank_below}
use Rattle.tab_rule.proofs.ExactLemmas.{files_exact}

module _ (p : ShownPattern) (cells : List ℕ) (j number : ℕ) (is : IsEntryNumber p cells j number) where
  -- the number of an entry is below the count of entries
  pub number_below : number < entry_count p
  number_below =
      let counted : number ≡ is.rank * slot_count p + j = is.counted in
      let slot : j < slot_count p = is.slot in
      let below = entry_rank_below is in
      let next : (is.rank + 1) * slot_count p ≤ placement_count p * slot_count p =
      mul-le-mul_right (slot_count p) (let s : is.rank + 1 ≤ placement_count p = omega arith in s) in
      omega arith

module _ (t : Table) where
  -- each entry is in a block
  pub block_of : (cells : List ℕ) (j number : ℕ) → IsEntryNumber t.pattern cells j number → (block : ℕ) × (block < block_count t.pattern)
      × IsInBlock t.pattern block number
  block_of cells j number is =
      let block : ℕ = is.rank / 256 in
      let counted : number ≡ is.rank * slot_count t.pattern + j = is.counted in
      let slot : j < slot_count t.pattern = is.slot in
      let below : is.rank < placement_count t.pattern = entry_rank_below is in
      let starts : block * 256 * slot_count t.pattern ≤ is.rank * slot_count t.pattern =
      mul-le-mul_right (slot_count t.pattern) (let s : block * 256 ≤ is.rank = omega arith in s) in
      let ends : (is.rank + 1) * slot_count t.pattern ≤ (block + 1) * 256 * slot_count t.pattern =
      mul-le-mul_right (slot_count t.pattern) (let s : is.rank + 1 ≤ (block + 1) * 256 = omega arith in s) in
      (block, omega arith, record { from = omega arith; to = omega arith })

  -- where each block keeps the rule, each entry does
  pub keeps_by_blocks : AllBlocksKeepRule t → AllKeepRule t
  keeps_by_blocks all number cells j is = let b = block_of cells j number is in all b.0 b.1 number b.2 cells j is

  -- an entry that isn't bad keeps the rule, since that can be told
  pub keeps_unless_bad : IsPattern t.pattern → (number : ℕ) → ¬ IsBad t number → KeepsRule t number
  keeps_unless_bad pat number good cells j is = elim (rule_decided t pat cells j (slice_index t.entries number) (entry_placement is)) [
    | inl keeps ↦ keeps
    | inr breaks ↦ absurd (good (record { cells = cells; slot = j; is_number = is; breaks = breaks }))
  ]

  -- where all entries keep the rule, none is the least bad one
  pub none_bad : AllKeepRule t → (number : ℕ) → IsLeastBadEntry t number → ⊥
  none_bad all number is = is.bad.breaks (all number is.bad.cells is.bad.slot is.bad.is_number)

  -- a table has at most one least bad entry
  pub least_bad_one : (number other : ℕ) → IsLeastBadEntry t number → IsLeastBadEntry t other → number ≡ other
  least_bad_one number other is also = let low : number ≤ other = is.least other also.bad in let high : other ≤ number = also.least number is.bad in omega arith

  -- a table whose entries all keep the rule has right entries alone
  pub exact_from_keeps : IsTable t → AllKeepRule t → AreExact t
  exact_from_keeps is = (files_exact t is).0

  -- a table whose entries are all right has none that breaks the rule
  pub keeps_from_exact : IsTable t → AreExact t → AllKeepRule t
  keeps_from_exact is = (files_exact t is).1
