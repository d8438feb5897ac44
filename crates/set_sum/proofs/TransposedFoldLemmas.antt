-- What a folded table tells of a transposed board is what one of the transposed pattern tells of the board.
use Rattle.std.proofs.Common.{◌≡◌, ℕ, ◌*◌, ◌<◌, ◌≤◌, true, List, [], ◌∷◌, map, inl, inr, refl, sym, ◌∙◌, ap, ap₂, subst}
use Rattle.std.proofs.lemmas.Bool.{true≢false}
use Rattle.std.specs.List.{AllByRecursion}
use Rattle.puz_board.specs.Boards.{IsBoardOf, blank, cell_of}
use Rattle.puz_board.specs.Costs.{IsLeastCost, cost, has}
use Rattle.puz_board.specs.Paths.{IsPath}
use Rattle.puz_board.specs.Transposing.{transposed, transposed_cell, transposed_tiles}
use Rattle.puz_board.proofs.BoardLemmas.{side_of-board}
use Rattle.puz_board.proofs.HasLemmas.{has-here, has-later, has_cases, has_from_all}
use Rattle.puz_board.proofs.TransposeLemmas.{AreInside, AreTransposed, IsBoardOf-transposed, cell_below, cell_of-transposed, cell_twice}
use Rattle.puz_board.proofs.TransposeLemmas.{cost-transposed, leads-transposed, least_costs, transposed-twice, transposed_tiles-are}
use Rattle.puz_board.proofs.TransposeLemmas.{transposed_tiles-inside}
use Rattle.pat_place.specs.Placements.{placement_of}
use Rattle.tab_rule.specs.FoldedTables.{IsFoldedCost, FoldedTableSays, IsFoldedNever}
use Rattle.tab_rule.specs.declared.tables.Count.{Count}
use Rattle.tab_rule.specs.declared.tables.Count.TheVariants.{Finite, Never}
use Rattle.set_sum.proofs.NumeralLemmas.{head_is, tail_is}

-- ---- boards that have tiles in the same cells

same_cell : (tiles x y : List ℕ) → placement_of tiles x ≡ placement_of tiles y → (t : ℕ) → has tiles t ≡ true → cell_of t x ≡ cell_of t y
same_cell [] x y same t is = absurd (true≢false (sym is))
same_cell (u ∷ us) x y same t is = elim (has_cases t u us is) [
  | inl here ↦ subst (λ k. cell_of k x ≡ cell_of k y) here (head_is (cell_of u x) (cell_of u y) (placement_of us x) (placement_of us y) same)
  | inr later ↦ same_cell us x y (tail_is (cell_of u x) (cell_of u y) (placement_of us x) (placement_of us y) same) t later
]

all_cells : (tiles x y : List ℕ) → ((t : ℕ) → has tiles t ≡ true → cell_of t x ≡ cell_of t y) → placement_of tiles x ≡ placement_of tiles y
all_cells [] x y each = refl
all_cells (t ∷ ts) x y each = ap₂ (λ (c : ℕ) (cs : List ℕ). c ∷ cs) (each t (has-here t t ts refl)) (all_cells ts x y (λ u is. each u (has-later u t ts is)))

module _ (n : ℕ) (low : 2 ≤ n) (high : n ≤ 5) (tiles others : List ℕ) (are : AreTransposed n tiles others) (also : AreInside n others) where
  turned_cell : (b : List ℕ) → IsBoardOf n b → (t : ℕ) → has others t ≡ true → cell_of t (transposed b) ≡ transposed_cell n (cell_of (transposed_cell n t) b)
  turned_cell b good t is =
      let inside = also t is in
      ap (λ u. cell_of u (transposed b)) (sym (cell_twice n low high t inside))
      ∙ cell_of-transposed n b good (transposed_cell n t) (cell_below n low high t inside)

  -- transposed they have the transposed tiles in the same cells
  places-transposed : (x y : List ℕ) → IsBoardOf n x → IsBoardOf n y → placement_of tiles x ≡ placement_of tiles y
      → placement_of others (transposed x) ≡ placement_of others (transposed y)
  places-transposed x y good board same = all_cells others (transposed x) (transposed y) each
    where
      each : (t : ℕ) → has others t ≡ true → cell_of t (transposed x) ≡ cell_of t (transposed y)
      each t is =
          let of_tiles : has tiles (transposed_cell n t) ≡ true = sym (are t (also t is)) ∙ is in
          turned_cell x good t is ∙ ap (transposed_cell n) (same_cell tiles x y same (transposed_cell n t) of_tiles) ∙ sym (turned_cell y board t is)

-- ---- folded tables

module _ (n : ℕ) (tiles : List ℕ) (all : AllByRecursion (λ t. t < n * n) tiles) (b : List ℕ) (good : IsBoardOf n b) where
  -- what the tiles become on the transposed board
  abbrev pub others : List ℕ
  others = transposed_tiles n tiles

  inside : AreInside n tiles
  inside t is = has_from_all (λ t. t < n * n) tiles t all is

  are : AreTransposed n tiles others
  are = transposed_tiles-are n tiles

  back : AreTransposed n others tiles
  back t l = sym (are (transposed_cell n t) (cell_below n good.low good.high t l) ∙ ap (has tiles) (cell_twice n good.low good.high t l))

  turned : IsBoardOf n (transposed b)
  turned = IsBoardOf-transposed n b good

  to_others : (x : List ℕ) → IsBoardOf n x → placement_of tiles x ≡ placement_of tiles (transposed b)
      → placement_of others (transposed x) ≡ placement_of others b
  to_others x board same =
      places-transposed n good.low good.high tiles others are (transposed_tiles-inside n tiles) x (transposed b) board turned same ∙
      ap (placement_of others) (transposed-twice n b good)

  to_tiles : (x : List ℕ) → IsBoardOf n x → placement_of others x ≡ placement_of others b
      → placement_of tiles (transposed x) ≡ placement_of tiles (transposed b)
  to_tiles x board same = places-transposed n good.low good.high others tiles back inside x b board good same

  folded_cost : (d : ℕ) → IsFoldedCost n tiles (placement_of tiles (transposed b)) d → IsFoldedCost n others (placement_of others b) d
  folded_cost d is =
      let board = IsBoardOf-transposed n is.board is.is_board in
      let again = sym (transposed-twice n is.board is.is_board) in
      record {
        board = transposed is.board;
        is_board = board;
        places = to_others is.board is.is_board is.places;
        costs = (least_costs n tiles all (transposed is.board) board d).1 (subst (λ x. IsLeastCost tiles x d) again is.costs);
        least = λ x path good_x same leads.
            let walk : IsPath n (blank x) path = subst (λ m. IsPath m (blank x) path) (side_of-board n x good_x) leads.walk in
            let low : d ≤ cost tiles (transposed x) (map (transposed_cell n) path) =
            is.least (transposed x) (map (transposed_cell n) path) (IsBoardOf-transposed n x good_x) (to_tiles x good_x same)
            (leads-transposed n tiles others are inside x good_x path leads) in
            subst (λ k. d ≤ k) (sym (cost-transposed n tiles others are path x good_x walk)) low;
      }

  folded_never : IsFoldedNever n tiles (placement_of tiles (transposed b)) → IsFoldedNever n others (placement_of others b)
  folded_never never x good_x same path leads =
      never (transposed x) (IsBoardOf-transposed n x good_x) (to_tiles x good_x same) (map (transposed_cell n) path)
      (leads-transposed n tiles others are inside x good_x path leads)

  -- a folded table of the tiles tells of the transposed board what that of the transposed tiles tells of the board
  pub folded_counts : (count : Count) → FoldedTableSays tiles (transposed b) count → FoldedTableSays others b count
  folded_counts (Finite d) is =
      subst (λ k. IsFoldedCost k others (placement_of others b) d) (sym (side_of-board n b good)) (
      folded_cost d (subst (λ k. IsFoldedCost k tiles (placement_of tiles (transposed b)) d) (side_of-board n (transposed b) turned) is))
  folded_counts Never is =
      subst (λ k. IsFoldedNever k others (placement_of others b)) (sym (side_of-board n b good)) (
      folded_never (subst (λ k. IsFoldedNever k tiles (placement_of tiles (transposed b))) (side_of-board n (transposed b) turned) is))
