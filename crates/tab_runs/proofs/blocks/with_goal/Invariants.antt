use Rattle.std.proofs.Common.{◌≡◌, ℕ, ◌<◌, get_or, length}
use Rattle.tab_runs.proofs.blocks.with_goal.Given as goal

-- the kinds before this place are those that were given
abbrev pub invariant-loop-place : goal.invariant-loop-place
invariant-loop-place l = record {
  size : length l.kinds ≡ 256;
  same : (i : ℕ) → i < l.place → get_or l.kinds i 0 ≡ get_or l.told i 0;
}
