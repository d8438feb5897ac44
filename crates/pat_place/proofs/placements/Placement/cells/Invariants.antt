use Rattle.std.proofs.Common.{◌≡◌, take}
use Rattle.pat_place.proofs.placements.Placement.cells.Given as goal

-- the cells that were listed are the first cells of the placement
abbrev pub invariant-loop-cell : goal.invariant-loop-cell
invariant-loop-cell l = l.cells.items ≡ take l.cell-index l.cell-items
