-- Folded tables: for each placement the least of the least costs of its boards, wherever their blank is.
use Rattle.std.specs.Prelude.{◌≡◌, ℕ, ◌≤◌, ◌⊎◌, List, length, slice_index}
use Rattle.puz_board.specs.Boards.{IsBoardOf, side_of}
use Rattle.puz_board.specs.Costs.{IsLeastCost, IsNeverHome, LeadsHome, cost}
use Rattle.pat_place.specs.Patterns.{ShownPattern, IsPattern}
use Rattle.pat_place.specs.Placements.{IsPlacement, placement_of}
use Rattle.pat_place.specs.Ranks.{IsRank}
use Rattle.tab_file.specs.Tables.{placement_count}
use Rattle.tab_rule.specs.declared.tables.Count.{Count}
use Rattle.tab_rule.specs.declared.tables.Count.TheVariants.{Finite, Never}

-- some board with the tiles in these cells has this least cost, and no path of such a board leads them home at a lower one
pub record IsFoldedCost (n : ℕ) (tiles cells : List ℕ) (d : ℕ) : Type 0 where
  pub board : List ℕ
  pub is_board : IsBoardOf n board
  pub places : placement_of tiles board ≡ cells
  pub costs : IsLeastCost tiles board d
  pub least : (b path : List ℕ) → IsBoardOf n b → placement_of tiles b ≡ cells → LeadsHome tiles b path → d ≤ cost tiles b path

-- no path leads the tiles of any such board home
abbrev pub IsFoldedNever : ℕ → List ℕ → List ℕ → Type 0
IsFoldedNever n tiles cells = (b : List ℕ) → IsBoardOf n b → placement_of tiles b ≡ cells → IsNeverHome tiles b

-- what a folded table of these tiles says of a board: that of its placement
abbrev pub FoldedTableSays : List ℕ → List ℕ → Count → Type 0
FoldedTableSays tiles b (Finite d) = IsFoldedCost (side_of b) tiles (placement_of tiles b) d
FoldedTableSays tiles b Never = IsFoldedNever (side_of b) tiles (placement_of tiles b)

-- an entry says this of a placement: the cost, which is 253 at most, or by 255 that none of its boards comes home
abbrev pub SaysOfPlacement : ShownPattern → List ℕ → ℕ → Type 0
SaysOfPlacement p cells e =
    ((e ≤ 253) × IsFoldedCost p.side p.tiles cells e) ⊎ ((e ≡ 255) × IsFoldedNever p.side p.tiles cells)

-- the entries of a folded table of the pattern, rank by rank
pub record AreFolded (p : ShownPattern) (entries : List ℕ) : Type 0 where
  pub size : length entries ≡ placement_count p
  pub each : (cells : List ℕ) (r : ℕ) → IsPlacement (record { pattern = p; cells = cells }) → IsRank p.side cells r → SaysOfPlacement p cells (slice_index entries r)

-- a pattern that has a folded table
pub record HasFoldedTable (p : ShownPattern) : Type 0 where
  pub pattern : IsPattern p
  pub entries : List ℕ
  pub are : AreFolded p entries
