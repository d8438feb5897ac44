-- The blocks of a table are cut from its entries in order.
use Rattle.std.proofs.Common.{◌≡◌, ℕ, ◌+◌, ◌*◌, ◌≤◌, ◌^◌, arith}
use Rattle.std.proofs.Math.Nat.{mul-le-mul_right}
use Rattle.pat_place.specs.Patterns.{ShownPattern}
use Rattle.tab_file.specs.Tables.{entry_count, slot_count}
use Rattle.tab_check.specs.Jobs.{block_begin}
use Rattle.tab_rule.specs.Blocks.{block_count}

module _ (p : ShownPattern) where
  -- block 0 begins at entry 0 of the table
  pub block_begin-zero : block_begin p 0 ≡ 0
  block_begin-zero = omega arith

  -- a block begins no later than the next one
  pub block_begin-rises : (block : ℕ) → block_begin p block ≤ block_begin p (block + 1)
  block_begin-rises block =
      let next : block * 256 * slot_count p ≤ (block + 1) * 256 * slot_count p =
      mul-le-mul_right (slot_count p) (let s : block * 256 ≤ (block + 1) * 256 = omega arith in s) in
      omega arith

  -- where a table has at most 2^32 entries, its blocks end at 2^32 at most
  pub block_begin-small : entry_count p ≤ 2 ^ 32 → block_begin p (block_count p) ≤ 2 ^ 32
  block_begin-small few = omega arith
