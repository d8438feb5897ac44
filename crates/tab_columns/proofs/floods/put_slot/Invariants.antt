use Rattle.std.proofs.Common.{◌≡◌, ◌≢◌, ℕ, ◌+◌, ◌*◌, ◌<◌, length, get_or}
use Rattle.tab_columns.proofs.floods.put_slot.Given as goal

-- the rows before this one have their mask at the slot, and the other slots are as before
abbrev pub invariant-loop-row : goal.invariant-loop-row
invariant-loop-row l = record {
  here : (r : ℕ) → r < l.row → get_or l.masks (r * l.width + l.slot) 0 ≡ get_or l.regions r 0;
  others : (r j : ℕ) → j < l.width → j ≢ l.slot → get_or l.masks (r * l.width + j) 0 ≡ get_or l.fn.masks (r * l.width + j) 0;
  len : length l.masks ≡ 2048;
}
