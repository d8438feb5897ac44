use Rattle.std.proofs.Common.{◌≡◌, ℕ, ◌-◌, ◌^◌, ◌<◌, ◌≤◌, bit_and, get_or}
use Rattle.tab_columns.proofs.floods.take_out.Given as goal

-- the rows before this one are rid of their region, and those from it on are as before
abbrev pub invariant-loop-row : goal.invariant-loop-row
invariant-loop-row l = record {
  taken : (r : ℕ) → r < l.row → get_or l.rest r 0 ≡ bit_and (get_or l.fn.rest r 0) (2 ^ 32 - 1 - get_or l.regions r 0);
  kept : (r : ℕ) → l.row ≤ r → get_or l.rest r 0 ≡ get_or l.fn.rest r 0;
}
