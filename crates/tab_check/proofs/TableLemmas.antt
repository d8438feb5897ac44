-- The blocks of a table together.
use Rattle.std.proofs.Common.{◌≡◌, ℕ, ◌+◌, ◌*◌, ◌<◌, ◌≤◌, Option, Some, None, inl, inr, arith}
use Rattle.std.specs.Prelude.{MatchOption}
use Rattle.std.proofs.lemmas.Bool.{cases_lt}
use Rattle.std.proofs.Math.Nat.{mul-le-mul_right}
use Rattle.pat_place.specs.Patterns.{ShownPattern, IsPattern}
use Rattle.tab_file.specs.Tables.{Table, entry_count, placement_count, slot_count}
use Rattle.work_run.specs.Faults.{IsFault, IsLeastBad as IsLeastPlace}
use Rattle.tab_rule.specs.BadEntries.{AllKeepRule, IsBad, IsLeastBadEntry}
use Rattle.tab_rule.specs.Blocks.{BlockKeepsRule, IsLeastBadIn, block_count, first_of_block}
use Rattle.tab_rule.proofs.TableLemmas.{keeps_unless_bad, number_below}
use Rattle.tab_check.specs.Jobs.{block_begin}

-- the last block ends with the last entry
pub block_begin-end : (p : ShownPattern) → block_begin p (block_count p) ≡ entry_count p
block_begin-end p =
    let all : placement_count p * slot_count p ≤ block_count p * 256 * slot_count p =
    mul-le-mul_right (slot_count p) (let s : placement_count p ≤ block_count p * 256 = omega arith in s) in
    omega arith

module _ (t : Table) where
  -- ---- one block

  -- the least bad entry of a block is the least bad place of its job, and with none there is none
  pub block_places : (block : ℕ) (bad : Option ℕ) → MatchOption bad (BlockKeepsRule t block) (IsLeastBadIn t block)
      → IsLeastPlace (IsBad t) (block_begin t.pattern block) (block_begin t.pattern (block + 1)) bad
  block_places block None keeps = λ place from to bad. bad.breaks
      (keeps place (record { from = omega arith; to = omega arith }) bad.cells bad.slot bad.is_number)
  block_places block (Some number) is =
      let from : first_of_block t.pattern block ≤ number = is.in_block.from in
      let to : number < first_of_block t.pattern (block + 1) = is.in_block.to in
      let low : number < entry_count t.pattern = number_below t.pattern is.bad.cells is.bad.slot number is.bad.is_number in (
        omega arith,
        omega arith,
        is.bad,
        λ place after before bad.
            let least : number ≤ place = is.least place (record { from = omega arith; to = omega arith }) bad in omega arith,
      )

  -- ---- all blocks

  -- where no place of all blocks is bad, each entry keeps the local rule
  pub keeps_whole : IsPattern t.pattern → IsFault (IsBad t) (block_begin t.pattern (block_count t.pattern)) None → AllKeepRule t
  keeps_whole pat good number cells j is =
      let end = block_begin-end t.pattern in
      let low : number < entry_count t.pattern = number_below t.pattern cells j number is in
      keeps_unless_bad t pat number (good number (omega arith) (omega arith)) cells j is

  -- the least bad place of all blocks is the least bad entry of the table
  pub least_bad_whole : (number : ℕ) → IsFault (IsBad t) (block_begin t.pattern (block_count t.pattern)) (Some number) → IsLeastBadEntry t number
  least_bad_whole number is = record {
    bad = is.2;
    least = λ other bad. elim (cases_lt other number) [ inl l ↦ absurd (is.3 other (omega arith) l bad) | inr l ↦ l ];
  }
