use Rattle.std.proofs.Common.{◌≡◌, take, true}
use Rattle.puz_board.specs.Masks.{IsMaskOf}
use Rattle.pat_place.specs.Patterns.{has}
use Rattle.pat_place.proofs.placements.Placement.occupied.Given as goal

-- the mask has the cells of the first tiles, and no others
abbrev pub invariant-loop-cell : goal.invariant-loop-cell
invariant-loop-cell l = IsMaskOf l.occupied (λ c. has (take l.cell-index l.cell-items) c ≡ true)
