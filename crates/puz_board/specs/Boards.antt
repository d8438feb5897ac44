-- Boards: which number stands in which cell. The number 0 is the blank, and the others are the tiles.
-- A board is the list of its numbers, in the order of the cells.
use Rattle.std.specs.Prelude.{◌≡◌, ℕ, suc, ◌*◌, ◌<◌, ◌≤◌, ◌==◌, if◌then◌else◌, Bool, List, [], ◌∷◌, length, slice_index, slice_set, Option, option_map}
use Rattle.std.specs.List.{enumerate_from, list_all}
use Rattle.puz_board.specs.declared.moves.Move.{Move}
use Rattle.puz_board.specs.Cells.{step_of}

-- ---- boards

-- the side of a board of so many cells; 0 where no board has so many
unfoldable pub side_of_count : ℕ → ℕ
side_of_count count =
    if count == 4 then 2 else
    if count == 9 then 3 else
    if count == 16 then 4 else
    if count == 25 then 5 else 0

-- the side of a board, which the count of its numbers gives
abbrev pub side_of : List ℕ → ℕ
side_of b = side_of_count (length b)

-- the number in a cell
abbrev pub at : List ℕ → ℕ → ℕ
at b c = slice_index b c

-- a board of side n, from 2 to 5: n * n numbers below n * n, no number in two cells
pub record IsBoardOf (n : ℕ) (b : List ℕ) : Type 0 where
  pub low : 2 ≤ n
  pub high : n ≤ 5
  pub size : length b ≡ n * n
  pub below : (c : ℕ) → c < n * n → at b c < n * n
  pub distinct : (c d : ℕ) → c < n * n → d < n * n → at b c ≡ at b d → c ≡ d

-- a board of its own side
abbrev pub IsBoard : List ℕ → Type 0
IsBoard b = IsBoardOf (side_of b) b

-- ---- where a number stands

-- the cell of a number; the count of cells where it has none
abbrev pub cell_of : ℕ → List ℕ → ℕ
cell_of t [] = 0
cell_of t (x ∷ xs) = if x == t then 0 else suc (cell_of t xs)

-- the cell of the blank
abbrev pub blank : List ℕ → ℕ
blank b = cell_of 0 b

-- each number is in the cell of its own number
abbrev pub IsGoal : List ℕ → Type 0
IsGoal b = (c : ℕ) → c < length b → at b c ≡ c

-- the same as a test
unfoldable pub is_goal : List ℕ → Bool
is_goal b = list_all (λ (c, x). x == c) (enumerate_from 0 b)

-- ---- what a move does

-- the board after its blank has changed places with the tile in cell c
unfoldable pub slid : List ℕ → ℕ → List ℕ
slid b c = slice_set (slice_set b (blank b) (at b c)) c 0

-- the board after a move; none where the move would leave the board
abbrev pub moved : List ℕ → Move → Option (List ℕ)
moved b m = option_map (slid b) (step_of (side_of b) (blank b) m)
