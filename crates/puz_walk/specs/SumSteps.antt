-- Steps of walks that ask sets for their sums.
use Rattle.std.specs.Prelude.{◌≡◌, ℕ, ◌+◌, ◌≤◌}
use Rattle.puz_board.specs.Boards.{blank}
use Rattle.puz_walk.specs.Tallies.{AreTold, IsSlideOf}
use Rattle.puz_walk.specs.Walks.{IsOpen, ShownWalk}
use Rattle.puz_walk.specs.declared.sum_walks.SumStep.{SumStep}

-- the step leads from an open walk to this one, whose bound is one less: it keeps the blank's cell before it, and what the
-- members that have its tile said then
pub record IsSumStep (old new : ShownWalk) (step : SumStep) : Type 0 where
  pub open_ : IsOpen old
  pub small : old.bound ≤ 255
  pub bundle : new.bundle ≡ old.bundle
  pub bound : new.bound + 1 ≡ old.bound
  pub tile : ℕ
  pub leads : IsSlideOf old.bundle old.board new.board tile
  pub from : step.from ≡ blank old.board
  pub told : AreTold old.bundle old.board tile step.told
