use Rattle.std.proofs.Common.{length}
use Rattle.pat_place.proofs.NextLemmas.{IsFilling}
use Rattle.pat_place.proofs.ranks.fill.Given as goal

-- the places so far have the first cells of the first list, and the mask has the cells left
abbrev pub invariant-loop-cell : goal.invariant-loop-cell
invariant-loop-cell l = IsFilling (length l.fn.cells) l.free l.cell-items l.cell-index l.rest
