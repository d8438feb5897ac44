use Rattle.std.proofs.Common.{◌≡◌, ℕ, ◌<◌, ◌/◌, None, length, get_or}
use Rattle.puz_board.specs.Cells.{reverse_of, step_of}
use Rattle.edge_words.specs.Words.{move_of}
use Rattle.edge_words.proofs.lookups.all_origins.Given as goal

-- the places up to this one have the cells from which their moves lead
abbrev pub invariant-loop-place : goal.invariant-loop-place
invariant-loop-place l = record {
  room : length l.origins ≡ 100;
  each : (k : ℕ) → k < l.place → get_or l.origins k None ≡ step_of l.side (k / 4) (reverse_of (move_of k));
}
