-- What holds of forbidden strings on every board.
use Rattle.std.specs.Prelude.{◌≡◌, ℕ, ◌<◌, false, List, [], ◌∷◌, length}
use Rattle.std.specs.List.{AllByRecursion}
use Rattle.puz_board.specs.Boards.{IsBoardOf, blank}
use Rattle.puz_board.specs.Cells.{reverse_of}
use Rattle.puz_board.specs.Paths.{IsSolution, Leads}
use Rattle.puz_board.specs.declared.moves.Move.{Move}
use Rattle.move_strings.specs.Automata.{IsAutomaton, ShownAutomaton, refuses}
use Rattle.move_strings.specs.Strings.{HasString, IsForbidden}

-- moves that are a solution of the board, fewer than r, and have none of the strings in them
pub record HasShortSolutionWithout (n : ℕ) (strings : List (List Move)) (b : List ℕ) (r : ℕ) : Type 0 where
  pub moves : List Move
  pub path : List ℕ
  pub led : Leads n (blank b) moves path
  pub solution : IsSolution b path
  pub short : length path < r
  pub without : AllByRecursion (λ string. ¬ HasString moves string) strings

-- a board with a solution of fewer than r moves has one of fewer than r moves with none of the forbidden strings in it
abbrev pub ForbiddenStringsNeedNotBeTried : Type 0
ForbiddenStringsNeedNotBeTried =
    (n : ℕ) (strings : List (List Move)) → AllByRecursion (IsForbidden n) strings →
    (b : List ℕ) → IsBoardOf n b → (r : ℕ) (path : List ℕ) → IsSolution b path → length path < r →
    HasShortSolutionWithout n strings b r

-- ---- what follows

-- a move and the one that takes it back are a forbidden string, of two letters
abbrev pub TakingBackIsForbidden : Type 0
TakingBackIsForbidden = (n : ℕ) (move : Move) → IsForbidden n (move ∷ reverse_of move ∷ [])

-- moves that are a solution of the board, fewer than r, and that the automaton doesn't refuse
pub record HasShortSolutionKept (a : ShownAutomaton) (b : List ℕ) (r : ℕ) : Type 0 where
  pub moves : List Move
  pub path : List ℕ
  pub led : Leads a.side (blank b) moves path
  pub solution : IsSolution b path
  pub short : length path < r
  pub kept : refuses a.steps 0 moves ≡ false

-- a board with a solution of fewer than r moves has one of fewer than r moves that the automaton doesn't refuse
abbrev pub AutomataKeepASolution : Type 0
AutomataKeepASolution =
    (a : ShownAutomaton) → IsAutomaton a → (b : List ℕ) → IsBoardOf a.side b → (r : ℕ) (path : List ℕ) → IsSolution b path → length path < r →
    HasShortSolutionKept a b r
