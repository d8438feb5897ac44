use Rattle.std.proofs.Common.{ℕ, ◌+◌, ◌<◌, get_or}
use Rattle.std.specs.Prelude.{IsTrue}
use Rattle.tab_rule.specs.Limits.{IsPast, KeepsRuleUpTo}
use Rattle.tab_columns.proofs.limits.block_passes.Given as goal

-- the entries so far keep the rule up to the count, and it is known whether one is past it
abbrev pub invariant-loop-i : goal.invariant-loop-i
invariant-loop-i l = record {
  kept : (k : ℕ) → k < l.i → KeepsRuleUpTo l.most (get_or l.columns.kinds k 0) (get_or l.columns.least k 0) (get_or l.entries (l.columns.begin + k) 0);
  some : IsTrue l.has_past → (k : ℕ) × (k < l.i) × IsPast l.most (get_or l.columns.kinds k 0) (get_or l.columns.least k 0)
      (get_or l.entries (l.columns.begin + k) 0);
  none : (k : ℕ) → k < l.i → IsPast l.most (get_or l.columns.kinds k 0) (get_or l.columns.least k 0) (get_or l.entries (l.columns.begin + k) 0)
      → IsTrue l.has_past;
}
