-- What holds of goals and half turns, on every board.
use Rattle.std.specs.Prelude.{◌≡◌, ◌↔◌, ℕ, ◌≤◌, List, length}
use Rattle.puz_board.specs.Boards.{IsBoard, side_of}
use Rattle.puz_board.specs.MovesTexts.{Solves}
use Rattle.puz_board.specs.Paths.{IsSolution}
use Rattle.puz_goal.specs.Goals.{IsBoundedFor, SolvesFor}
use Rattle.puz_goal.specs.Turning.{board_for, moves_for}
use Rattle.puz_goal.specs.declared.goals.Goal.{Goal}

-- a board for a goal is a board of the same side, and turned again it is what it was
pub record IsTurned (goal : Goal) (b : List ℕ) : Type 0 where
  pub board : IsBoard (board_for goal b)
  pub side : side_of (board_for goal b) ≡ side_of b
  pub twice : board_for goal (board_for goal b) ≡ b

abbrev pub BoardsTurn : Type 0
BoardsTurn = (goal : Goal) (b : List ℕ) → IsBoard b → IsTurned goal b

-- moves solve a board for a goal exactly where the moves for it solve the board for it
abbrev pub TurningKeepsSolutions : Type 0
TurningKeepsSolutions =
    (goal : Goal) (b text : List ℕ) (n : ℕ) → IsBoard b → SolvesFor goal b text n ↔ Solves (board_for goal b) (moves_for goal text) n

-- so no solution of a board for a goal has fewer than n steps exactly where none of the board for it has
abbrev pub TurningKeepsBounds : Type 0
TurningKeepsBounds =
    (goal : Goal) (b : List ℕ) (n : ℕ) → IsBoard b
    → IsBoundedFor goal b n ↔ ((path : List ℕ) → IsSolution (board_for goal b) path → n ≤ length path)
