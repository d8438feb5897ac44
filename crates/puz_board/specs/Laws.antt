-- What holds of the costs of every set of tiles, of transposing, and of the lengths of solutions, on every board.
use Rattle.std.specs.Prelude.{◌≡◌, ◌↔◌, ℕ, ◌*◌, ◌<◌, ◌%◌, List, length, map}
use Rattle.std.specs.List.{AllByRecursion}
use Rattle.puz_board.specs.Boards.{IsBoardOf, IsGoal, blank}
use Rattle.puz_board.specs.Costs.{IsLeastCost, IsNeverHome}
use Rattle.puz_board.specs.Parity.{blank_parity}
use Rattle.puz_board.specs.Paths.{IsPath, IsSolution, after}
use Rattle.puz_board.specs.Transposing.{transposed, transposed_cell, transposed_tiles}

-- the least cost is one number
abbrev pub TheLeastCostIsOneNumber : Type 0
TheLeastCostIsOneNumber = (tiles b : List ℕ) (d e : ℕ) → IsLeastCost tiles b d → IsLeastCost tiles b e → d ≡ e

-- tiles that no path leads home have no least cost
abbrev pub NeverHomeHasNoCost : Type 0
NeverHomeHasNoCost = (tiles b : List ℕ) (d : ℕ) → IsNeverHome tiles b → ¬ IsLeastCost tiles b d

-- ---- transposing

-- a board transposed is a board, and transposed again it is what it was
abbrev pub TransposingIsItsOwnInverse : Type 0
TransposingIsItsOwnInverse =
    (n : ℕ) (b : List ℕ) → IsBoardOf n b → IsBoardOf n (transposed b) × (transposed (transposed b) ≡ b)

-- the goal board is its own transposed board
abbrev pub TransposingKeepsTheGoal : Type 0
TransposingKeepsTheGoal = (n : ℕ) (b : List ℕ) → IsBoardOf n b → IsGoal b → transposed b ≡ b

-- a path of a board, cell by cell, is one of the transposed board, of as many steps, and leads to the transposed board
pub record IsSamePath (n : ℕ) (b path : List ℕ) : Type 0 where
  pub walk : IsPath n (blank (transposed b)) (map (transposed_cell n) path)
  pub ends : after (transposed b) (map (transposed_cell n) path) ≡ transposed (after b path)
  pub steps : length (map (transposed_cell n) path) ≡ length path

abbrev pub TransposingKeepsPaths : Type 0
TransposingKeepsPaths =
    (n : ℕ) (b : List ℕ) → IsBoardOf n b → (path : List ℕ) → IsPath n (blank b) path → IsSamePath n b path

-- the least cost of transposed tiles on a board is that of the tiles on the transposed board
abbrev pub TransposingKeepsLeastCosts : Type 0
TransposingKeepsLeastCosts =
    (n : ℕ) (tiles b : List ℕ) → IsBoardOf n b → AllByRecursion (λ t. t < n * n) tiles →
    ((d : ℕ) → IsLeastCost (transposed_tiles n tiles) b d ↔ IsLeastCost tiles (transposed b) d) ×
    (IsNeverHome (transposed_tiles n tiles) b ↔ IsNeverHome tiles (transposed b))

-- ---- parity

-- the number of steps of each solution has the parity of the blank's distance from cell 0
abbrev pub SolutionsHaveTheBlanksParity : Type 0
SolutionsHaveTheBlanksParity =
    (n : ℕ) (b : List ℕ) → IsBoardOf n b → (path : List ℕ) → IsSolution b path →
    length path % 2 ≡ blank_parity b
