use Rattle.std.proofs.Common.{◌≡◌, length}
use Rattle.tab_columns.specs.Columns.{EachSlot}
use Rattle.tab_rule.specs.LocalRule.{IsLeastOf}
use Rattle.tab_columns.specs.Moves.{IsEntryAmong}
use Rattle.tab_columns.proofs.neighbours.least_near.Given as goal

-- each slot has the least of the entries after moves of the tiles before this one
abbrev pub invariant-loop-index : goal.invariant-loop-index
invariant-loop-index l = record {
  each : EachSlot l.table.pattern l.placements (λ cells j. IsLeastOf (IsEntryAmong l.table cells j l.index)) (length l.placements) l.least;
  len : length l.least ≡ 2048;
}
