use Rattle.std.proofs.Common.{◌≡◌, ℕ, ◌*◌, ◌<◌, ◌≤◌, length, get_or}
use Rattle.tab_file.specs.Tables.{slot_count}
use Rattle.tab_columns.specs.Columns.{EachSlot}
use Rattle.tab_rule.specs.LocalRule.{IsLeastOf}
use Rattle.tab_columns.specs.Moves.{IsEntryTowards}
use Rattle.tab_columns.proofs.neighbours.entries_towards.Given as goal

-- the placements before this one have their entries after the move, and all behind is 255
abbrev pub invariant-loop-row : goal.invariant-loop-row
invariant-loop-row l = record {
  each : EachSlot l.table.pattern l.placements (λ cells j. IsLeastOf (IsEntryTowards l.table cells j l.index l.fn.mv)) l.row l.entries;
  len : length l.entries ≡ 2048;
  empty : (i : ℕ) → l.row * slot_count l.table.pattern ≤ i → i < 2048 → get_or l.entries i 0 ≡ 255;
}
