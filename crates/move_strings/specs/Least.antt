-- Least solutions, by length and then by letters.
use Rattle.std.specs.Prelude.{◌≡◌, ℕ, ◌<◌, false, List, length, Some}
use Rattle.puz_board.specs.Boards.{IsBoardOf, IsGoal}
use Rattle.puz_board.specs.Paths.{board_after}
use Rattle.puz_board.specs.declared.moves.Move.{Move}
use Rattle.move_strings.specs.Automata.{IsAutomaton, ShownAutomaton, refuses}
use Rattle.move_strings.specs.Strings.{ComesBefore, HasForbidden}

-- the moves, fewer than r, lead from the board to the goal board
pub record IsShortSolution (b : List ℕ) (r : ℕ) (moves : List Move) : Type 0 where
  pub end : List ℕ
  pub leads : board_after b moves ≡ Some end
  pub goal : IsGoal end
  pub short : length moves < r

-- and no moves that come before them do
pub record IsLeastSolution (b : List ℕ) (r : ℕ) (moves : List Move) : Type 0 where
  pub solves : IsShortSolution b r moves
  pub least : (others : List Move) → ComesBefore others moves → ¬ IsShortSolution b r others

-- a least solution has no forbidden string in it, and so no automaton refuses it
abbrev pub LeastSolutionsHaveNoForbiddenString : Type 0
LeastSolutionsHaveNoForbiddenString =
    (n : ℕ) (b : List ℕ) → IsBoardOf n b → (r : ℕ) (moves : List Move) → IsLeastSolution b r moves → ¬ HasForbidden n moves

abbrev pub AutomataKeepLeastSolutions : Type 0
AutomataKeepLeastSolutions =
    (a : ShownAutomaton) → IsAutomaton a → (b : List ℕ) → IsBoardOf a.side b → (r : ℕ) (moves : List Move) → IsLeastSolution b r moves →
    refuses a.steps 0 moves ≡ false
