-- What holds of all shortest solutions.
use Rattle.std.specs.Prelude.{◌≢◌, ℕ, List, ◌∷◌, ◌++◌, length}
use Rattle.puz_board.specs.Boards.{IsBoard, blank}
use Rattle.puz_board.specs.Paths.{IsSolution, after}
use Rattle.set_sum.specs.Bounds.{IsBounded}

-- where a solution of a board is as short as any, and behind its front goes to cell c and then to cell d, the blank was not in cell d
-- before: the second move doesn't take back the first
abbrev pub ShortestSolutionsTakeNothingBack : Type 0
ShortestSolutionsTakeNothingBack =
    (b front behind : List ℕ) (c d : ℕ) → IsBoard b → let path = front ++ c ∷ d ∷ behind in
    IsSolution b path → IsBounded b (length path) → blank (after b front) ≢ d
