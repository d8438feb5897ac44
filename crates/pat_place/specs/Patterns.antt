-- Patterns: sets of tiles.
use Rattle.std.specs.Prelude.{ℕ, ◌+◌, ◌-◌, ◌*◌, ◌<◌, ◌≤◌, ◌==◌, if◌then◌else◌, List, [], ◌∷◌, length, min, ⊤}
use Rattle.std.specs.List.{AllByRecursion}
-- whether a number stands in a list
pub use Rattle.puz_board.specs.Costs.{has}

-- what a contract sees of a pattern: the side of its board, and its tiles
pub record ShownPattern : Type 0 where
  pub side : ℕ
  pub tiles : List ℕ

-- each number is below all behind it
abbrev pub IsAscending : List ℕ → Type 0
IsAscending [] = ⊤
IsAscending (x ∷ xs) = AllByRecursion (λ y. x < y) xs × IsAscending xs

-- how many tiles a pattern of side n may have
abbrev pub most_tiles : ℕ → ℕ
most_tiles n = if n == 2 then 3 else if n == 5 then 6 else 8

-- some of the tiles 1 to n * n - 1, and not too many, for a side n from 2 to 5
pub record IsPattern (p : ShownPattern) : Type 0 where
  pub low : 2 ≤ p.side
  pub high : p.side ≤ 5
  pub ascending : IsAscending p.tiles
  pub tiles : AllByRecursion (λ t. (0 < t) × (t < p.side * p.side)) p.tiles
  pub some : 0 < length p.tiles
  pub most : length p.tiles ≤ most_tiles p.side

-- W: no placement of k tiles has more regions of free cells
abbrev pub width : ℕ → ℕ → ℕ
width n k = min (k + 1) (n * n - k)
