-- What placements need of boards.
use Rattle.std.proofs.Common.{◌≡◌, ℕ, ◌*◌, ◌<◌, List, sym, ◌∙◌, ap, arith}
use Rattle.puz_board.specs.Boards.{IsBoard, IsGoal, at, cell_of, side_of}
use Rattle.puz_board.proofs.BoardLemmas.{at-cell_of, cell_of-below, cell_of-content}

-- the cell of a number is on the board
pub cell_of-inside : (b : List ℕ) → IsBoard b → (t : ℕ) → t < side_of b * side_of b → cell_of t b < side_of b * side_of b
cell_of-inside b good t l = cell_of-below (side_of b) b good t l

-- two numbers are not in one cell
pub cell_of-apart : (b : List ℕ) → IsBoard b → (t u : ℕ) → t < side_of b * side_of b → u < side_of b * side_of b → cell_of t b ≡ cell_of u b → t ≡ u
cell_of-apart b good t u l k e = sym (at-cell_of (side_of b) b good t l) ∙ ap (at b) e ∙ at-cell_of (side_of b) b good u k

-- on the goal board, each number is in its own cell
pub cell_of-goal : (b : List ℕ) → IsBoard b → IsGoal b → (t : ℕ) → t < side_of b * side_of b → cell_of t b ≡ t
cell_of-goal b good home t l = ap (λ x. cell_of x b) (sym (home t (let size = good.size in omega arith))) ∙ cell_of-content (side_of b) b good t l
