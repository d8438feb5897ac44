use Rattle.std.proofs.Common.{◌≡◌, ◌≤◌}
use Rattle.pat_place.proofs.NextLemmas.{IsLifted}
use Rattle.pat_place.proofs.ranks.next.Given as goal

-- the tiles from here on are lifted from the last of their lists, and nothing is changed
abbrev pub invariant-loop-index : goal.invariant-loop-index
invariant-loop-index l = record {
  lifted : IsLifted l.fn.placement.pattern.side l.fn.placement.cells l.index l.free;
  within : l.index ≤ l.size;
  same : l.placement ≡ l.fn.placement;
  same_cells : l.cells ≡ l.initial.cells;
}

-- the number of the tiles that aren't lifted
abbrev pub decreases-loop-index : goal.decreases-loop-index
decreases-loop-index l = l.index
