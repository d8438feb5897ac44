use Rattle.std.proofs.Common.{ℕ, ◌<◌}
use Rattle.tab_rule.specs.Blocks.{BlockKeepsRule}
use Rattle.pdb_checker.proofs.tables.first_bad.Given as goal

-- the blocks so far keep the rule
abbrev pub invariant-loop-block : goal.invariant-loop-block
invariant-loop-block l = record {
  kept : (b : ℕ) → b < l.block → BlockKeepsRule l.table b;
}
