-- Paths of the blank, cells that paths reach, and solutions.
use Rattle.std.specs.Prelude.{◌≡◌, ℕ, List, [], ◌∷◌, Option, Some, option_and_then, ⊤}
use Rattle.puz_board.specs.declared.moves.Move.{Move}
use Rattle.puz_board.specs.Boards.{IsGoal, blank, moved, side_of, slid}
use Rattle.puz_board.specs.Cells.{Adjacent, step_of}

-- ---- paths, which are lists of cells

-- each cell is adjacent to the one before, and the first one to cell c
abbrev pub IsPath : ℕ → ℕ → List ℕ → Type 0
IsPath n c [] = ⊤
IsPath n c (d ∷ ds) = Adjacent n c d × IsPath n d ds

-- the board after the blank has gone along the cells
abbrev pub after : List ℕ → List ℕ → List ℕ
after b [] = b
after b (c ∷ cs) = after (slid b c) cs

-- a path of the board's blank that ends in the goal board
abbrev pub IsSolution : List ℕ → List ℕ → Type 0
IsSolution b path = IsPath (side_of b) (blank b) path × IsGoal (after b path)

-- a path of open cells leads from one cell to another
pub data Reaches (n : ℕ) (Open : ℕ → Type 0) : ℕ → ℕ → Type 0 where
  here : {c : ℕ} → Reaches n Open c c
  onward : {c d f : ℕ} → Adjacent n c d → Open d → Reaches n Open d f → Reaches n Open c f

-- ---- moves, one after another

-- from cell c the moves lead to these cells, one move to each
abbrev pub Leads : ℕ → ℕ → List Move → List ℕ → Type 0
Leads n c [] [] = ⊤
Leads n c [] (d ∷ ds) = ⊥
Leads n c (m ∷ ms) [] = ⊥
Leads n c (m ∷ ms) (d ∷ ds) = (step_of n c m ≡ Some d) × Leads n d ms ds

-- the board after the moves; none where one of them would leave the board
unfoldable pub board_after : List ℕ → List Move → Option (List ℕ)
board_after b [] = Some b
board_after b (m ∷ ms) = option_and_then (λ d. board_after d ms) (moved b m)
