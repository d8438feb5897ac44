-- Steps of a walk by edge words.
use Rattle.std.specs.Prelude.{◌≡◌, ◌+◌, ◌<◌, ◌^◌, Some}
use Rattle.puz_board.specs.Boards.{at, blank, moved}
use Rattle.puz_walk.specs.Pasts.{IsPastOf}
use Rattle.puz_walk.specs.Walks.{IsOpen, ShownWalk}
use Rattle.puz_walk.specs.declared.word_walks.WordStep.{WordStep}

-- the step leads from walk w, which is open, to the next one by its move, with one move less: it keeps the blank's cell, the sums
-- of the sets, and what the move of the tile changed, as they were
pub record IsWordStepFrom (w next : ShownWalk) (step : WordStep) : Type 0 where
  pub is_open : IsOpen w
  pub bundle : next.bundle ≡ w.bundle
  pub leads : moved w.board step.mv ≡ Some next.board
  pub less : next.bound + 1 ≡ w.bound
  pub fits : w.bound < 2 ^ 8
  pub from : step.from ≡ blank w.board
  pub past : IsPastOf w.bundle w.board (at next.board step.from) step.past
