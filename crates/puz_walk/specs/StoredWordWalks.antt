-- How a walk by edge words is stored.
use Rattle.std.specs.Prelude.{◌≡◌, ℕ, ◌+◌, ◌*◌, ◌<◌, ◌≤◌, length, take, slice_index}
use Rattle.puz_board.specs.Parity.{blank_parity}
use Rattle.set_sum.specs.Bundles.{IsBundle}
use Rattle.puz_walk.specs.Cuts.{margin_of}
use Rattle.puz_walk.specs.Walks.{ShownWalk}
use Rattle.puz_walk.specs.WordSpots.{IsSpotOf}
use Rattle.puz_walk.specs.declared.word_walks.WordWalk.TheInside.{Inside}

-- the bundle, the board and the bound
abbrev pub word_walk_shown : Inside → ShownWalk
word_walk_shown w = record { bundle = w.bundle.now; board = take (w.bundle.now.side * w.bundle.now.side) w.spot.numbers; bound = w.bound }

-- these are the fields of a walk, of which no set cuts the board off
pub record IsStoredWordWalk (w : Inside) : Type 0 where
  pub bundle : IsBundle w.bundle.now
  pub spot : IsSpotOf w.bundle.now (word_walk_shown w).board w.spot
  pub margin : w.margin ≡ margin_of w.bound (blank_parity (word_walk_shown w).board)
  pub below : (set : ℕ) → set < length w.bundle.now.sets → slice_index w.spot.sums set + w.margin ≤ w.bound
