-- Goals: where the tiles stand in order, and the blank in the first cell or in the last.
use Rattle.std.specs.Prelude.{◌≡◌, ℕ, ◌+◌, ◌-◌, ◌<◌, ◌≤◌, ◌||◌, List, [], codes, length}
use Rattle.std.specs.List.{AllPass}
use Rattle.puz_board.specs.Boards.{IsGoal, at, blank, side_of}
use Rattle.puz_board.specs.BoardTexts.{is_separator}
use Rattle.puz_board.specs.MovesTexts.{is_letter, moves_of}
use Rattle.puz_board.specs.Paths.{IsPath, Leads, after}
use Rattle.puz_goal.specs.declared.goals.Goal.{Goal}
use Rattle.puz_goal.specs.declared.goals.Goal.TheVariants.{First, Last}

-- tile 1 is in the first cell, tile 2 in the next, and so on, and the blank is in the last cell
abbrev pub IsLastGoal : List ℕ → Type 0
IsLastGoal b = ((c : ℕ) → c + 1 < length b → at b c ≡ c + 1) × (at b (length b - 1) ≡ 0)

-- the blank and all tiles are at home
abbrev pub IsGoalFor : Goal → List ℕ → Type 0
IsGoalFor First b = IsGoal b
IsGoalFor Last b = IsLastGoal b

-- a path of the board's blank that ends there
abbrev pub IsSolutionFor : Goal → List ℕ → List ℕ → Type 0
IsSolutionFor goal b path = IsPath (side_of b) (blank b) path × IsGoalFor goal (after b path)

-- the text has letters and separators alone, and its n moves, 1000 at most, are a solution of the board for the goal
pub record SolvesFor (goal : Goal) (b text : List ℕ) (n : ℕ) : Type 0 where
  pub letters : AllPass (λ byte. is_letter byte || is_separator byte) text
  pub path : List ℕ
  pub led : Leads (side_of b) (blank b) (moves_of text) path
  pub solution : IsSolutionFor goal b path
  pub count : length path ≡ n
  pub few : n ≤ 1000

-- no solution of the board for the goal has fewer than n steps
abbrev pub IsBoundedFor : Goal → List ℕ → ℕ → Type 0
IsBoundedFor goal b n = (path : List ℕ) → IsSolutionFor goal b path → n ≤ length path

-- what the line of an answer ends with
abbrev pub goal_words : Goal → List ℕ
goal_words First = []
goal_words Last = codes " with the blank last"
