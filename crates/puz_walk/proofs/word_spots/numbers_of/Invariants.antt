use Rattle.std.proofs.Common.{◌≡◌, ℕ, ◌<◌, length, slice_index}
use Rattle.puz_board.specs.Boards.{at}
use Rattle.puz_walk.proofs.word_spots.numbers_of.Given as goal

-- the cells up to this one have their numbers
abbrev pub invariant-loop-cell : goal.invariant-loop-cell
invariant-loop-cell l = record {
  room : length l.numbers ≡ 25;
  each : (c : ℕ) → c < l.cell → slice_index l.numbers c ≡ at l.board c;
}
