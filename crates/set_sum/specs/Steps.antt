-- Steps of a walk over the boards of which a bundle is asked.
use Rattle.std.specs.Prelude.{◌≡◌, ℕ, List}
use Rattle.puz_board.specs.Boards.{IsBoardOf, blank, slid}
use Rattle.puz_board.specs.Cells.{Adjacent}
use Rattle.set_sum.specs.Bundles.{ShownBundle}
use Rattle.set_sum.specs.Known.{IsKnownOf}
use Rattle.set_sum.specs.declared.known.PositionStep.{PositionStep}

-- the step leads from board b to this one: it keeps the blank's cell on b, and what is known of b
pub record IsStepFrom (v : ShownBundle) (b next : List ℕ) (step : PositionStep) : Type 0 where
  pub board : IsBoardOf v.side b
  pub to : ℕ
  pub near : Adjacent v.side (blank b) to
  pub leads : slid b to ≡ next
  pub from : step.from ≡ blank b
  pub known : IsKnownOf v b step.known
