-- The blocks of a table, one after the other.
use Rattle.std.proofs.Common.{◌≡◌, ℕ, ◌+◌, ◌*◌, ◌<◌, ◌≤◌, inl, inr, subst, arith}
use Rattle.std.proofs.Math.Nat.{mul-le-mul_right}
use Rattle.std.proofs.lemmas.Bool.{cases_lt}
use Rattle.tab_file.specs.Tables.{Table, slot_count}
use Rattle.tab_rule.specs.BadEntries.{IsBad, IsLeastBadEntry}
use Rattle.tab_rule.specs.Blocks.{BlockKeepsRule, IsInBlock, IsLeastBadIn, first_of_block}
use Rattle.tab_rule.proofs.TableLemmas.{block_of}

module _ (t : Table) where
  -- where the blocks below one keep the rule and it does, so do those below the next
  pub one_more : (block : ℕ) → ((b : ℕ) → b < block → BlockKeepsRule t b) → BlockKeepsRule t block
      → (b : ℕ) → b < block + 1 → BlockKeepsRule t b
  one_more block below keeps b l = elim (cases_lt b block) [
    | inl low ↦ below b low
    | inr high ↦ subst (BlockKeepsRule t) (let same : block ≡ b = omega arith in same) keeps
  ]

  -- a bad entry of this block or of one behind it isn't before the least bad entry of this block
  behind : (block number : ℕ) → IsLeastBadIn t block number → (other : ℕ) → IsBad t other → (b : ℕ) → block ≤ b → IsInBlock t.pattern b other
      → number ≤ other
  behind block number is other bad b after inside =
      let begins : block * 256 * slot_count t.pattern ≤ b * 256 * slot_count t.pattern =
      mul-le-mul_right (slot_count t.pattern) (let s : block * 256 ≤ b * 256 = omega arith in s) in
      let from : b * 256 * slot_count t.pattern ≤ other = inside.from in
      let low : number < first_of_block t.pattern (block + 1) = is.in_block.to in
      elim (cases_lt other (first_of_block t.pattern (block + 1))) [
        | inl here ↦ is.least other (record { from = omega arith; to = here }) bad
        | inr past ↦ omega arith
      ]

  -- where the blocks before one keep the rule, its least bad entry is that of the table
  pub least_of_first : (block number : ℕ) → ((b : ℕ) → b < block → BlockKeepsRule t b) → IsLeastBadIn t block number → IsLeastBadEntry t number
  least_of_first block number kept is = record {
    bad = is.bad;
    least = λ other bad.
        let at = block_of t bad.cells bad.slot other bad.is_number in
        elim (cases_lt at.0 block) [
          | inl low ↦ absurd (bad.breaks (kept at.0 low other at.2 bad.cells bad.slot bad.is_number))
          | inr high ↦ behind block number is other bad at.0 high at.2
        ];
  }
