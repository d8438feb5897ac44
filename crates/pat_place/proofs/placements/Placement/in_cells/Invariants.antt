use Rattle.std.proofs.Common.{◌≡◌, ◌-◌, ◌++◌, take, replicate}
use Rattle.pat_place.proofs.placements.Placement.in_cells.Given as goal

-- the array has the first cells, and behind them zeros
abbrev pub invariant-loop-i : goal.invariant-loop-i
invariant-loop-i l = l.stored ≡ take l.i l.cells ++ replicate (8 - l.i) 0
