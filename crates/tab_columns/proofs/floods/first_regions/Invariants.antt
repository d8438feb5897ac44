use Rattle.std.proofs.Common.{◌≡◌, ℕ, ◌<◌, length, get_or}
use Rattle.tab_columns.specs.Columns.{IsFirstCell}
use Rattle.tab_columns.proofs.floods.first_regions.Given as goal

-- each row before this one has the first cell of its mask
abbrev pub invariant-loop-row : goal.invariant-loop-row
invariant-loop-row l = record {
  len : length l.regions ≡ 256;
  each : (r : ℕ) → r < l.row → IsFirstCell (get_or l.rest r 0) (get_or l.regions r 0);
}
