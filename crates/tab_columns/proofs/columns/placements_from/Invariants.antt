use Rattle.std.proofs.Common.{◌≡◌, ℕ, ◌+◌, ◌<◌, Some}
use Rattle.std.specs.Prelude.{slice_get}
use Rattle.pat_place.specs.Placements.{ShownPlacement, IsPlacement}
use Rattle.pat_place.specs.Ranks.{IsRank}
use Rattle.tab_columns.proofs.columns.placements_from.Given as goal

-- the placement is that of the row before, and the rows up to there have their placements
abbrev pub invariant-loop-row : goal.invariant-loop-row
invariant-loop-row l = record {
  pattern : l.placement.pattern ≡ l.pattern;
  placement : IsPlacement l.placement;
  rank : (r : ℕ) → r + 1 ≡ l.row → IsRank l.pattern.side l.placement.cells (l.first + r);
  before : (r : ℕ) (v : ShownPlacement) → r < l.row → slice_get l.placements r ≡ Some v → (v.pattern ≡ l.pattern) × IsPlacement v
      × IsRank l.pattern.side v.cells (l.first + r);
}
