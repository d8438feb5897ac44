use Rattle.std.proofs.Common.{◌≡◌, ℕ, ◌<◌, ◌/◌, None, length, get_or}
use Rattle.puz_board.specs.Cells.{step_of}
use Rattle.edge_words.specs.Words.{move_of}
use Rattle.puz_walk.proofs.ways.all_ways.Given as goal

-- the places up to this one have the cells to which their moves lead
abbrev pub invariant-loop-place : goal.invariant-loop-place
invariant-loop-place l = record {
  room : length l.ways ≡ 100;
  each : (k : ℕ) → k < l.place → get_or l.ways k None ≡ step_of l.side (k / 4) (move_of k);
}
