-- What holds of the placements of boards.
use Rattle.std.specs.Prelude.{◌≡◌, ℕ, ◌*◌, ◌<◌, true, false, List, length, slice_index, slice_set}
use Rattle.puz_board.specs.Boards.{IsBoardOf, at, blank, slid}
use Rattle.puz_board.specs.Cells.{Adjacent}
use Rattle.pat_place.specs.Patterns.{ShownPattern, IsPattern, has}
use Rattle.pat_place.specs.Placements.{ShownPlacement, IsPlacement, IsFree, placement_of}

-- a board of this placement with its blank in cell c
pub record HasBoard (p : ShownPlacement) (c : ℕ) : Type 0 where
  pub board : List ℕ
  pub is_board : IsBoardOf p.pattern.side board
  pub places : placement_of p.pattern.tiles board ≡ p.cells
  pub blank_cell : blank board ≡ c

-- each placement and each of its free cells are those of a board and its blank
abbrev pub EachPlacementIsOfABoard : Type 0
EachPlacementIsOfABoard =
    (p : ShownPlacement) → IsPattern p.pattern → IsPlacement p → (c : ℕ) → IsFree p.pattern.side p.cells c → HasBoard p c

-- the blank's cell is free
abbrev pub BlankCellsAreFree : Type 0
BlankCellsAreFree =
    (p : ShownPattern) → IsPattern p → (b : List ℕ) → IsBoardOf p.side b → IsFree p.side (placement_of p.tiles b) (blank b)

-- a step that moves no tile of the pattern keeps the placement
abbrev pub OtherTilesKeepThePlacement : Type 0
OtherTilesKeepThePlacement =
    (p : ShownPattern) → IsPattern p → (b : List ℕ) → IsBoardOf p.side b → (c : ℕ) → c < p.side * p.side →
    has p.tiles (at b c) ≡ false → placement_of p.tiles (slid b c) ≡ placement_of p.tiles b

-- the placement after a step is the one before with one tile, which was in cell c, moved to the blank's cell
pub record MovesOneTile (p : ShownPattern) (b : List ℕ) (c : ℕ) : Type 0 where
  pub index : ℕ
  pub is_index : index < length p.tiles
  pub from : slice_index (placement_of p.tiles b) index ≡ c
  pub to : placement_of p.tiles (slid b c) ≡ slice_set (placement_of p.tiles b) index (blank b)

-- a step that moves a tile of the pattern moves that one tile
abbrev pub EachTileMovesAlone : Type 0
EachTileMovesAlone =
    (p : ShownPattern) → IsPattern p → (b : List ℕ) → IsBoardOf p.side b → (c : ℕ) → Adjacent p.side (blank b) c →
    has p.tiles (at b c) ≡ true → MovesOneTile p b c
