-- What holds of ranks, regions and slots at every placement.
use Rattle.std.specs.Prelude.{◌≡◌, ℕ, ◌<◌, ◌↔◌, ◌⊎◌, List, [], ◌∷◌, length, slice_get, Some}
use Rattle.puz_board.specs.Transposing.{transposed_tiles}
use Rattle.pat_place.specs.Patterns.{IsPattern, ShownPattern, width}
use Rattle.pat_place.specs.Placements.{ShownPlacement, IsPlacement, IsFree}
use Rattle.pat_place.specs.Ranks.{IsRank, placements}
use Rattle.pat_place.specs.Regions.{Joins, IsSlot}

-- ---- ranks

-- each placement has one rank
abbrev pub EachPlacementHasOneRank : Type 0
EachPlacementHasOneRank =
    (p : ShownPlacement) → IsPlacement p →
    (r : ℕ) × IsRank p.pattern.side p.cells r × ((s : ℕ) → IsRank p.pattern.side p.cells s → s ≡ r)

-- the first number in which two lists differ is the smaller one of the first list
abbrev pub IsLexicographicallyBefore : List ℕ → List ℕ → Type 0
IsLexicographicallyBefore [] q = ⊥
IsLexicographicallyBefore (x ∷ p) [] = ⊥
IsLexicographicallyBefore (x ∷ p) (y ∷ q) = (x < y) ⊎ ((x ≡ y) × IsLexicographicallyBefore p q)

-- ranks go up as the lists of cells do
abbrev pub RanksAreInOrder : Type 0
RanksAreInOrder =
    (n k r s : ℕ) (p q : List ℕ) → slice_get (placements n k) r ≡ Some p → slice_get (placements n k) s ≡ Some q →
    r < s → IsLexicographicallyBefore p q

-- on side 3, the cells 1, 2, 3 have rank 64, and the last of all, 8, 7, 6, have rank 503
abbrev pub RanksOfThreeCells : Type 0
RanksOfThreeCells = IsRank 3 (1 ∷ 2 ∷ 3 ∷ []) 64 × IsRank 3 (8 ∷ 7 ∷ 6 ∷ []) 503 × (length (placements 3 3) ≡ 504)

-- ---- regions and slots

-- each free cell has one slot
abbrev pub EachFreeCellHasOneSlot : Type 0
EachFreeCellHasOneSlot =
    (p : ShownPlacement) → IsPattern p.pattern → (c : ℕ) → IsFree p.pattern.side p.cells c →
    (j : ℕ) × IsSlot p.pattern.side p.cells c j × ((i : ℕ) → IsSlot p.pattern.side p.cells c i → i ≡ j)

-- two free cells have the same slot exactly where a path of free cells joins them
abbrev pub OneSlotIsOneRegion : Type 0
OneSlotIsOneRegion =
    (p : ShownPlacement) → IsPattern p.pattern → (c d i j : ℕ) →
    IsSlot p.pattern.side p.cells c i → IsSlot p.pattern.side p.cells d j → (i ≡ j) ↔ Joins p.pattern.side p.cells c d

-- no placement has more regions than its pattern's width
abbrev pub SlotsAreBelowWidth : Type 0
SlotsAreBelowWidth =
    (p : ShownPlacement) → IsPattern p.pattern → IsPlacement p → (c j : ℕ) → IsSlot p.pattern.side p.cells c j →
    j < width p.pattern.side (length p.cells)

-- a pattern transposed is a pattern
abbrev pub TransposedPatternsArePatterns : Type 0
TransposedPatternsArePatterns = (p : ShownPattern) → IsPattern p → IsPattern (record { side = p.side; tiles = transposed_tiles p.side p.tiles })
