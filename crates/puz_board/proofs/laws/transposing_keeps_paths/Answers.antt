use Rattle.std.proofs.lemmas.List.{length-map}
use Rattle.puz_board.specs.Transposing.{transposed_cell}
use Rattle.puz_board.proofs.TransposeLemmas.{after-transposed, walk-transposed}
use Rattle.puz_board.proofs.laws.transposing_keeps_paths.Goals as goal

-- a path of a board is, cell by cell transposed, a path of the transposed board
pub returns : goal.returns
returns c n b good path walk = record {
  walk = walk-transposed n path b good walk;
  ends = after-transposed n path b good walk;
  steps = length-map path (transposed_cell n);
}
