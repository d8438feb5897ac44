-- Placements: the cells of a pattern's tiles, in the tiles' order.
use Rattle.std.specs.Prelude.{◌≡◌, ℕ, ◌*◌, ◌<◌, false, List, [], ◌∷◌, length, map, slice_index, ⊤}
use Rattle.std.specs.List.{AllByRecursion}
use Rattle.puz_board.specs.Boards.{cell_of}
use Rattle.pat_place.specs.Patterns.{ShownPattern, has}

-- what a contract sees of a placement
pub record ShownPlacement : Type 0 where
  pub pattern : ShownPattern
  pub cells : List ℕ

-- no number stands twice
abbrev pub IsApart : List ℕ → Type 0
IsApart [] = ⊤
IsApart (x ∷ xs) = (has xs x ≡ false) × IsApart xs

-- a cell of the board for each tile, no cell for two
pub record IsPlacement (p : ShownPlacement) : Type 0 where
  pub size : length p.cells ≡ length p.pattern.tiles
  pub inside : AllByRecursion (λ c. c < p.pattern.side * p.pattern.side) p.cells
  pub apart : IsApart p.cells

-- the cells of these tiles on a board
abbrev pub placement_of : List ℕ → List ℕ → List ℕ
placement_of tiles b = map (λ t. cell_of t b) tiles

-- the cells of these tiles, where a list has the cell of each number
abbrev pub cells_found : List ℕ → List ℕ → List ℕ
cells_found tiles found = map (λ t. slice_index found t) tiles

-- a cell of the board that no tile of the pattern is in
abbrev pub IsFree : ℕ → List ℕ → ℕ → Type 0
IsFree n cells c = (c < n * n) × (has cells c ≡ false)
