-- The parity of what paths home cost. Each step that moves one of the tiles changes by one how far all of them are from cell 0,
-- added up, and each other step leaves these tiles where they are. So by a move of a pattern's tile the least cost rises or falls by one.
use Rattle.std.proofs.Common.{◌≡◌, ℕ, ◌+◌, ◌*◌, ◌%◌, ◌<◌, ◌≤◌, ◌⊎◌, Bool, true, false, cond, List, [], ◌∷◌, length, inl, inr, refl, sym, ◌∙◌}
use Rattle.std.proofs.Common.{ap, ap₂, subst, arith}
use Rattle.std.specs.List.{AllByRecursion, sum_by}
use Rattle.std.proofs.lemmas.Bool.{cases_lt}
use Rattle.std.proofs.lemmas.List.{length-map}
use Rattle.std.proofs.lemmas.List.Sums.{sum_by-set}
use Rattle.puz_board.specs.Boards.{IsBoardOf, at, blank, cell_of, slid}
use Rattle.puz_board.specs.Cells.{Adjacent, reverse_of}
use Rattle.puz_board.specs.Costs.{IsHome, IsLeastCost, IsNeverHome, LeadsHome, cost, has}
use Rattle.puz_board.specs.declared.moves.Move.{Move}
use Rattle.puz_board.specs.Parity.{taxicab}
use Rattle.puz_board.specs.Paths.{IsPath, after}
use Rattle.puz_board.proofs.BoardLemmas.{IsBoardOf-slid, blank-slid, cell_of-below, cell_of-content, cells_least, side_of-board}
use Rattle.puz_board.proofs.BoardWays.{Adjacent-apart}
use Rattle.puz_board.proofs.CellLemmas.{step_of-beside}
use Rattle.pat_place.specs.Patterns.{IsPattern, ShownPattern}
use Rattle.pat_place.specs.Placements.{IsApart, placement_of}
use Rattle.pat_place.proofs.ListLemmas.{apart_from_ascending, at-has}
use Rattle.pat_place.proofs.SlideLemmas.{get-placement_of, placement_of-slid_other, placement_of-slid_tile}
use Rattle.edge_words.specs.Words.{Differs, IsTileMove}
use Rattle.edge_words.proofs.TileMoveLemmas.{back_move, cost_next, next_board, path_next}

-- of two cells beside each other one is farther from cell 0 by one
farther : (n : ℕ) → 2 ≤ n → n ≤ 5 → (c d : ℕ) → c < n * n → Adjacent n c d → (taxicab n c + 1 ≡ taxicab n d) ⊎ (taxicab n d + 1 ≡ taxicab n c)
farther n low high c d l is = elim (step_of-beside n c is.1 d low high l is.2) [
  | inl in_row ↦ let same = in_row.0 in elim in_row.1 [ inl e ↦ inl (omega arith) | inr e ↦ inr (omega arith) ]
  | inr in_column ↦ let same = in_column.0 in elim in_column.1 [ inl e ↦ inl (omega arith) | inr e ↦ inr (omega arith) ]
]

-- tiles that are at home are in their own cells
homes : (tiles b : List ℕ) → AllByRecursion (λ t. cell_of t b ≡ t) tiles → placement_of tiles b ≡ tiles
homes [] b all = refl
homes (t ∷ tiles) b all = ap₂ (λ x xs. x ∷ xs) all.0 (homes tiles b all.1)

module _ (n : ℕ) (tiles : List ℕ) (all : AllByRecursion (λ t. (0 < t) × (t < n * n)) tiles) (apart : IsApart tiles) where
  -- how far the tiles are from cell 0, added up
  abbrev away : List ℕ → ℕ
  away b = sum_by (taxicab n) (placement_of tiles b)

  module _ (b : List ℕ) (good : IsBoardOf n b) (c : ℕ) (near : Adjacent n (blank b) c) where
    -- a step of one of the tiles changes by one how far they are
    paid : has tiles (at b c) ≡ true → (1 + away (slid b c)) % 2 ≡ away b % 2
    paid h =
        let i = at-has tiles (at b c) h in
        let set = placement_of-slid_tile n b good c near.0 tiles all apart (Adjacent-apart n (blank b) c good.low near) i.0 i.1 i.2 in
        let from = get-placement_of tiles b i.0 i.1 ∙ ap (λ t. cell_of t b) i.2 ∙ cell_of-content n b good c near.0 in
        let long = length-map tiles (λ t. cell_of t b) in
        let more = sum_by-set (taxicab n) (placement_of tiles b) i.0 (blank b) 0 (let l : i.0 < length tiles = i.1 in omega arith) in
        let there = ap (sum_by (taxicab n)) set in
        let here = ap (taxicab n) from in
        let home = cell_of-below n b good 0 (let some = cells_least n b good in omega arith) in
        elim (farther n good.low good.high (blank b) c home near) [ inl e ↦ omega arith | inr e ↦ omega arith ]

    -- so what a step costs keeps the parity of the costs and the distances together
    step : (k : ℕ) → (k + away (slid b c)) % 2 ≡ sum_by (taxicab n) tiles % 2
        → (cond (has tiles (at b c)) 1 0 + k + away b) % 2 ≡ sum_by (taxicab n) tiles % 2
    step k rest = go (has tiles (at b c)) refl
      where
        go : (h : Bool) → has tiles (at b c) ≡ h → (cond h 1 0 + k + away b) % 2 ≡ sum_by (taxicab n) tiles % 2
        go true h = let flips = paid h in omega arith
        go false h =
            let still : away (slid b c) ≡ away b = ap (sum_by (taxicab n)) (placement_of-slid_other n b good c near.0 tiles all h) in
            omega arith

  -- what a path home costs, and how far the tiles are from cell 0, have together the parity of how far their own cells are
  parity : (path b : List ℕ) → IsBoardOf n b → IsPath n (blank b) path → IsHome tiles (after b path)
      → (cost tiles b path + away b) % 2 ≡ sum_by (taxicab n) tiles % 2
  parity [] b good walk home =
      let there : away b ≡ sum_by (taxicab n) tiles = ap (sum_by (taxicab n)) (homes tiles b home.tiles_home) in
      omega arith
  parity (c ∷ cs) b good walk home =
      step b good c walk.0 (cost tiles (slid b c) cs)
      (parity cs (slid b c) (IsBoardOf-slid n b good c walk.0.0) (subst (λ x. IsPath n x cs) (sym (blank-slid n b good c walk.0.0)) walk.1) home)

  -- all paths that lead distinct tiles home from a board have costs of one parity
  pub one_parity : (b : List ℕ) → IsBoardOf n b → (path other : List ℕ) → LeadsHome tiles b path → LeadsHome tiles b other
      → cost tiles b path % 2 ≡ cost tiles b other % 2
  one_parity b good path other leads also =
      let side = side_of-board n b good in
      let one = parity path b good (subst (λ k. IsPath k (blank b) path) side leads.walk) leads.ends in
      let two = parity other b good (subst (λ k. IsPath k (blank b) other) side also.walk) also.ends in
      omega arith

module _ (p : ShownPattern) (pat : IsPattern p) (index : ℕ) (move : Move) (b next : List ℕ) (is : IsTileMove p index move b next)
    (d : ℕ) (least : IsLeastCost p.tiles b d) where
  -- where some path leads home before a move of a pattern's tile, some path does after it
  pub comes_home : ¬ IsNeverHome p.tiles next
  comes_home never = never (blank b ∷ least.path) (path_next p pat index move b next is least.path least.leads)

  -- by a move of a pattern's tile the least cost rises by one, or it falls by one
  pub differs_by_one : (e : ℕ) → IsLeastCost p.tiles next e → (rises : Bool) × Differs rises d e
  differs_by_one e other =
      let onward = path_next p pat index move b next is least.path least.leads in
      let back = back_move p pat index move b next is in
      let homeward = path_next p pat index (reverse_of move) next b back other.path other.leads in
      let paid = cost_next p pat index move b next is least.path in
      let paid_back = cost_next p pat index (reverse_of move) next b back other.path in
      let most = other.least (blank b ∷ least.path) onward in
      let least_most = least.least (blank next ∷ other.path) homeward in
      let one = least.costs in
      let two = other.costs in
      let same = one_parity p.side p.tiles pat.tiles (apart_from_ascending p.tiles pat.ascending) next (next_board p pat index move b next is)
      other.path (blank b ∷ least.path) other.leads onward in
      elim (cases_lt d e) [ inl l ↦ (true, (let s : e ≡ d + 1 = omega arith in s)) | inr g ↦ (false, (let s : d ≡ e + 1 = omega arith in s)) ]
