use Rattle.std.proofs.Common.{◌≡◌, true, take}
use Rattle.puz_board.specs.Masks.{IsMaskOf}
use Rattle.pat_place.specs.Patterns.{has}
use Rattle.pat_place.specs.Placements.{IsApart}
use Rattle.edge_words.proofs.fills.set_of.Given as goal

-- the cells so far are different ones, and their mask
abbrev pub invariant-loop-cell : goal.invariant-loop-cell
invariant-loop-cell l = record {
  apart : IsApart (take l.cell-index l.cells);
  set : IsMaskOf l.set (λ c. has (take l.cell-index l.cells) c ≡ true);
}
