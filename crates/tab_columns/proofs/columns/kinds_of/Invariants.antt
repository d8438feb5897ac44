use Rattle.std.proofs.Common.{◌≡◌, ℕ, ◌+◌, ◌<◌, length, get_or}
use Rattle.tab_columns.specs.Columns.{IsKindByMask}
use Rattle.tab_columns.proofs.columns.kinds_of.Given as goal

-- each slot before this one has the kind that its mask and number say
abbrev pub invariant-loop-i : goal.invariant-loop-i
invariant-loop-i l = record {
  len : length l.kinds ≡ 2048;
  each : (k : ℕ) → k < l.i → IsKindByMask (get_or l.masks k 0) (l.begin + k ≡ l.goal) (get_or l.kinds k 0);
}
