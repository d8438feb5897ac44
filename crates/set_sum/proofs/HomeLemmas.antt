-- A solution leads the tiles of each pattern home.
use Rattle.std.proofs.Common.{◌≡◌, ℕ, ◌*◌, ◌<◌, List, [], ◌∷◌, subst, arith}
use Rattle.std.specs.List.{AllByRecursion}
use Rattle.puz_board.specs.Boards.{IsBoardOf, IsGoal, blank, cell_of}
use Rattle.puz_board.specs.Costs.{LeadsHome}
use Rattle.puz_board.specs.Paths.{IsPath, IsSolution, after}
use Rattle.puz_board.proofs.BoardLemmas.{cell_of-is, cells_least, side_of-board}
use Rattle.puz_board.proofs.TransposeLemmas.{IsBoardOf-after}
use Rattle.pat_place.specs.Patterns.{IsPattern}

home_at_goal : (n : ℕ) (b : List ℕ) → IsBoardOf n b → IsGoal b → (t : ℕ) → t < n * n → cell_of t b ≡ t
home_at_goal n b good goal t low = cell_of-is n b good t t low (goal t (let s = good.size in omega arith))

tiles_home : (n : ℕ) (tiles b : List ℕ) → IsBoardOf n b → IsGoal b → AllByRecursion (λ t. (0 < t) × (t < n * n)) tiles
    → AllByRecursion (λ t. cell_of t b ≡ t) tiles
tiles_home n [] b good goal all = tt
tiles_home n (t ∷ tiles) b good goal all = (home_at_goal n b good goal t all.0.1, tiles_home n tiles b good goal all.1)

-- the tiles of side n
abbrev pub IsOf : ℕ → List ℕ → Type 0
IsOf n tiles = IsPattern (record { side = n; tiles = tiles })

module _ (n : ℕ) (b : List ℕ) (good : IsBoardOf n b) (path : List ℕ) (solves : IsSolution b path) where
  -- a solution of a board leads the tiles of each pattern home
  pub solution_home : (tiles : List ℕ) → IsOf n tiles → LeadsHome tiles b path
  solution_home tiles pat =
      let walk : IsPath n (blank b) path = subst (λ m. IsPath m (blank b) path) (side_of-board n b good) solves.0 in
      let end : IsBoardOf n (after b path) = IsBoardOf-after n path b good walk in
      record {
        walk = solves.0;
        ends = record {
          tiles_home = tiles_home n tiles (after b path) end solves.1 pat.tiles;
          blank_home = home_at_goal n (after b path) end solves.1 0 (let l = cells_least n b good in omega arith);
        };
      }
