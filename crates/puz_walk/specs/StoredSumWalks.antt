-- How a walk that asks sets for their sums is stored.
use Rattle.std.specs.Prelude.{◌≡◌, ℕ, ◌+◌, ◌<◌, ◌≤◌, length, slice_index}
use Rattle.puz_board.specs.Boards.{IsBoardOf}
use Rattle.puz_board.specs.Parity.{blank_parity}
use Rattle.set_sum.specs.Bundles.{IsBundle}
use Rattle.puz_walk.specs.Cuts.{margin_of}
use Rattle.puz_walk.specs.StoredWords.{AreWaysOf}
use Rattle.puz_walk.specs.Tallies.{AreTallied}
use Rattle.puz_walk.specs.Walks.{ShownWalk}
use Rattle.puz_walk.specs.declared.sum_walks.SumWalk.TheInside.{Inside}

-- the bundle, the board and the bound
abbrev pub sum_walk_shown : Inside → ShownWalk
sum_walk_shown w = record { bundle = w.position.bundle; board = w.position.board; bound = w.bound }

-- these are the fields of a walk, of which no set cuts the board off
pub record IsStoredSumWalk (w : Inside) : Type 0 where
  pub bundle : IsBundle w.position.bundle
  pub board : IsBoardOf w.position.bundle.side w.position.board
  pub ways : AreWaysOf w.position.bundle.side w.ways
  pub tally : AreTallied w.position.bundle w.position.board w.tally
  pub margin : w.margin ≡ margin_of w.bound (blank_parity w.position.board)
  pub below : (set : ℕ) → set < length w.position.bundle.sets → slice_index w.tally.sums set + w.margin ≤ w.bound
