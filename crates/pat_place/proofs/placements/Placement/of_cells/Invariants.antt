use Rattle.std.proofs.Common.{◌≡◌, ◌-◌, ◌++◌, take, replicate}
use Rattle.pat_place.specs.Placements.{cells_found}
use Rattle.pat_place.proofs.placements.Placement.of_cells.Given as goal

-- the array has the cells found for the first tiles, and behind them zeros
abbrev pub invariant-loop-i : goal.invariant-loop-i
invariant-loop-i l = l.cells ≡ take l.i (cells_found l.tile-items l.found) ++ replicate (8 - l.i) 0
