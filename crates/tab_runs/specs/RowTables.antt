-- Tables of rows: for each set of cells the rows of all cells, and how many entries a run has.
use Rattle.std.specs.Prelude.{◌≡◌, ℕ, ◌+◌, ◌-◌, ◌*◌, ◌<◌, List, length, drop, take}
use Rattle.pat_place.specs.Patterns.{ShownPattern, width}
use Rattle.tab_runs.specs.Rows.{IsRowOf, row_length}

-- what a contract sees of a table of rows: the side of the board, and how many tiles a placement has
pub record ShownRows : Type 0 where
  pub side : ℕ
  pub tiles : ℕ

-- what serves the patterns with this side and as many tiles
abbrev pub rows_for : ShownPattern → ShownRows
rows_for p = record { side = p.side; tiles = length p.tiles }

-- how many entries the placements of a run of k tiles have
abbrev pub entries_of_run : ℕ → ℕ → ℕ
entries_of_run n k = (n * n + 1 - k) * width n k

-- the row of a cell among rows of so many bytes
abbrev pub row_of : ℕ → List ℕ → ℕ → List ℕ
row_of len rows cell = take len (drop (cell * len) rows)

-- the rows of all cells for a set of cells as a mask, one behind the other
pub record AreRowsOf (n k mask : ℕ) (rows : List ℕ) : Type 0 where
  pub size : length rows ≡ n * n * row_length n k
  pub each : (cell : ℕ) → cell < n * n → IsRowOf n k mask cell (row_of (row_length n k) rows cell)
