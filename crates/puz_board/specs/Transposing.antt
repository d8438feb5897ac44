-- Boards and tiles reflected at the diagonal through cell 0: rows and columns change places.
use Rattle.std.specs.Prelude.{ℕ, ◌+◌, ◌*◌, List, filter, map}
use Rattle.std.specs.List.{range_with_len}
use Rattle.puz_board.specs.Boards.{at, side_of}
use Rattle.puz_board.specs.Cells.{column, row}
use Rattle.puz_board.specs.Costs.{has}

-- the cell whose row is the column of cell c, and whose column is its row
abbrev pub transposed_cell : ℕ → ℕ → ℕ
transposed_cell n c = column n c * n + row n c

-- on side n: what is in a cell goes to the transposed cell, and a tile becomes the one whose own cell is the transposed cell
-- of its own; so the blank stays the blank
abbrev pub transposed_on : ℕ → List ℕ → List ℕ
transposed_on n b = map (λ c. transposed_cell n (at b (transposed_cell n c))) (range_with_len 0 (n * n))

-- the board transposed
unfoldable pub transposed : List ℕ → List ℕ
transposed b = transposed_on (side_of b) b

-- what these tiles of side n become, ascending
abbrev pub transposed_tiles : ℕ → List ℕ → List ℕ
transposed_tiles n tiles = filter (λ t. has tiles (transposed_cell n t)) (range_with_len 0 (n * n))
