-- The parity of the lengths of solutions.
use Rattle.std.specs.Prelude.{ℕ, ◌+◌, ◌%◌, List}
use Rattle.puz_board.specs.Boards.{blank, side_of}
use Rattle.puz_board.specs.Cells.{column, row}

-- how many rows and columns lie between a cell and cell 0, together
abbrev pub taxicab : ℕ → ℕ → ℕ
taxicab n c = row n c + column n c

-- 0 where that is even for the blank's cell, and 1 where it is odd
unfoldable pub blank_parity : List ℕ → ℕ
blank_parity b = taxicab (side_of b) (blank b) % 2
