-- Values of placements and their free cells, as a step between boards and entries: none stands for never.
use Rattle.std.proofs.Common.{◌≡◌, ℕ, suc, ◌<◌, ◌≤◌, ◌⊎◌, List, length, Option, Some, None, set, get_or}
use Rattle.puz_board.specs.Boards.{IsBoardOf, blank}
use Rattle.puz_board.specs.Cells.{Adjacent}
use Rattle.puz_board.specs.Costs.{IsLeastCost, IsNeverHome}
use Rattle.pat_place.specs.Patterns.{ShownPattern}
use Rattle.pat_place.specs.Placements.{IsFree, IsPlacement, placement_of}
use Rattle.pat_place.specs.Regions.{Joins}
use Rattle.tab_file.specs.Tables.{Table}

-- one tile of the pattern is moved into the region of c, and the blank takes its cell t
pub record IsNear (n : ℕ) (cells : List ℕ) (c : ℕ) (moved : List ℕ) (t : ℕ) : Type 0 where
  pub to : ℕ
  pub joined : Joins n cells c to
  pub index : ℕ
  pub is_index : index < length cells
  pub tile_cell : get_or cells index 0 ≡ t
  pub adjacent : Adjacent n to t
  pub moves : moved ≡ set cells index to

-- the table of a pattern with these entries
abbrev pub table : ShownPattern → List ℕ → Table
table p entries = record { pattern = p; entries = entries }

-- the cells are those of a placement of the pattern
abbrev pub IsPlaced : ShownPattern → List ℕ → Type 0
IsPlaced p cells = IsPlacement (record { pattern = p; cells = cells })

-- the goal placement has tile t in cell t; the goal's region has cell 0
abbrev pub IsGoalRegion : ShownPattern → List ℕ → ℕ → Type 0
IsGoalRegion p cells c = (cells ≡ p.tiles) × Joins p.side cells c 0

module _ (p : ShownPattern) (value : List ℕ → ℕ → Option ℕ) where
  -- neighbouring free cells have one value
  abbrev pub IsConstant : Type 0
  IsConstant = (cells : List ℕ) (c d : ℕ) → IsPlaced p cells → IsFree p.side cells c → IsFree p.side cells d → Adjacent p.side c d
      → value cells d ≡ value cells c

  -- one more than the least value a pattern move away
  abbrev pub IsOneMore : List ℕ → ℕ → Option ℕ → Type 0
  IsOneMore cells c None = (q : List ℕ) (t : ℕ) → IsNear p.side cells c q t → value q t ≡ None
  IsOneMore cells c (Some d) =
      ((q : List ℕ) × (t : ℕ) × (k : ℕ) × IsNear p.side cells c q t × (value q t ≡ Some k) × (d ≡ suc k)) ×
      ((q : List ℕ) (t k : ℕ) → IsNear p.side cells c q t → value q t ≡ Some k → d ≤ suc k)

  -- the value is 0 in the goal's region, and elsewhere one more than the least of the neighbours', or none
  abbrev pub KeepsValueRule : List ℕ → ℕ → Type 0
  KeepsValueRule cells c =
      (IsGoalRegion p cells c × (value cells c ≡ Some 0)) ⊎ ((¬ IsGoalRegion p cells c) × IsOneMore cells c (value cells c))

  -- the values of all placements and free cells keep the rule
  abbrev pub AllKeepValueRule : Type 0
  AllKeepValueRule = (cells : List ℕ) (c : ℕ) → IsPlaced p cells → IsFree p.side cells c → KeepsValueRule cells c

-- what a value says of a board
abbrev pub SaysCost : List ℕ → List ℕ → Option ℕ → Type 0
SaysCost tiles b None = IsNeverHome tiles b
SaysCost tiles b (Some d) = IsLeastCost tiles b d

-- each value is the least cost of each board with that placement and its blank in that cell
abbrev pub IsExactValue : ShownPattern → (List ℕ → ℕ → Option ℕ) → Type 0
IsExactValue p value = (b : List ℕ) → IsBoardOf p.side b → SaysCost p.tiles b (value (placement_of p.tiles b) (blank b))
