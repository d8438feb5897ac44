-- What a path costs a set of tiles, and the least cost at which they come home. The set is the list of its tiles.
use Rattle.std.specs.Prelude.{◌≡◌, ℕ, ◌+◌, ◌≤◌, ◌==◌, if◌then◌else◌, Bool, List, [], ◌∷◌}
use Rattle.std.specs.List.{list_any, AllByRecursion}
use Rattle.puz_board.specs.Boards.{at, blank, cell_of, side_of, slid}
use Rattle.puz_board.specs.Paths.{IsPath, after}

-- whether a tile is one of the tiles
abbrev pub has : List ℕ → ℕ → Bool
has tiles t = list_any (λ x. x == t) tiles

-- how many steps of a path move one of the tiles
abbrev pub cost : List ℕ → List ℕ → List ℕ → ℕ
cost tiles b [] = 0
cost tiles b (c ∷ cs) = (if has tiles (at b c) then 1 else 0) + cost tiles (slid b c) cs

-- each of the tiles is in the cell of its own number, and the blank is in cell 0; the other tiles may be anywhere
pub record IsHome (tiles b : List ℕ) : Type 0 where
  pub tiles_home : AllByRecursion (λ t. cell_of t b ≡ t) tiles
  pub blank_home : blank b ≡ 0

-- a path of the board's blank after which the tiles are home
pub record LeadsHome (tiles b path : List ℕ) : Type 0 where
  pub walk : IsPath (side_of b) (blank b) path
  pub ends : IsHome tiles (after b path)

-- some path leads the tiles home at this cost, and none does at a lower one
pub record IsLeastCost (tiles b : List ℕ) (d : ℕ) : Type 0 where
  pub path : List ℕ
  pub leads : LeadsHome tiles b path
  pub costs : cost tiles b path ≡ d
  pub least : (other : List ℕ) → LeadsHome tiles b other → d ≤ cost tiles b other

-- no path leads the tiles home
abbrev pub IsNeverHome : List ℕ → List ℕ → Type 0
IsNeverHome tiles b = (path : List ℕ) → ¬ LeadsHome tiles b path
