-- Free steps are walks in a region, and paid steps lead to neighbours.
use Rattle.std.proofs.Common.{◌≡◌, ℕ, ◌*◌, ◌<◌, false, List, [], ◌∷◌, length, get_or, set, refl, sym, ◌∙◌, ap, ap₂, subst, arith}
use Rattle.std.proofs.lemmas.List.{length-map}
use Rattle.std.specs.List.{AllByRecursion}
use Rattle.puz_board.specs.Boards.{IsBoardOf, at, blank, cell_of}
use Rattle.puz_board.specs.Cells.{Adjacent}
use Rattle.puz_board.proofs.BoardLemmas.{at-cell_of, blank-slid, cell_of-content, cells_least, side_of-board}
use Rattle.puz_board.proofs.BoardWays.{Adjacent-apart, Free, Home, Paid, State, moved}
use Rattle.puz_board.proofs.Ways
use Rattle.pat_place.specs.Patterns.{ShownPattern, IsPattern, has}
use Rattle.pat_place.specs.Placements.{IsFree, placement_of}
use Rattle.pat_place.specs.Regions.{Joins, here, onward}
use Rattle.pat_place.proofs.ListLemmas.{apart_from_ascending, at-has, has-at}
use Rattle.pat_place.proofs.PlacementLemmas.{IsPlacement-of}
use Rattle.pat_place.proofs.SlideLemmas.{IsFree-blank, get-placement_of, has-placement_of, placement_of-slid_other, placement_of-slid_tile, tile_at}
use Rattle.tab_rule.proofs.Values.{IsGoalRegion, IsNear, IsPlaced}

module _ (p : ShownPattern) (pat : IsPattern p) where
  -- the placement and the blank of a state
  abbrev pub cells_in : State p.side → List ℕ
  cells_in s = placement_of p.tiles s.cells

  -- the cell of the blank on the board of a state
  abbrev pub blank_in : State p.side → ℕ
  blank_in s = blank s.cells

  -- a cell is one of the placement's exactly where the number in it is a tile of the pattern
  pub has-cells_in : (s : State p.side) (c : ℕ) → c < p.side * p.side → has (cells_in s) c ≡ has p.tiles (at s.cells c)
  has-cells_in s c l = has-placement_of p.side p.tiles pat.tiles s.cells s.good c l

  -- the cells of the pattern's tiles on a board are a placement of the pattern
  pub IsPlaced-in : (s : State p.side) → IsPlaced p (cells_in s)
  IsPlaced-in s =
      let side = side_of-board p.side s.cells s.good in
      IsPlacement-of s.cells (subst (λ n. IsBoardOf n s.cells) (sym side) s.good) p pat side

  -- the cell of the blank is free in the board's placement
  pub IsFree-in : (s : State p.side) → IsFree p.side (cells_in s) (blank_in s)
  IsFree-in s = IsFree-blank p.side p.tiles pat.tiles s.cells s.good (let l = cells_least p.side s.cells s.good in omega arith)

  length-cells_in : (s : State p.side) → length (cells_in s) ≡ length p.tiles
  length-cells_in s = length-map p.tiles (λ t. cell_of t s.cells)

  -- a free step keeps the placement and goes to a free cell
  pub free_keeps : (s t : State p.side) → (f : Free p.side p.tiles s t) → (cells_in t ≡ cells_in s) × (blank_in t ≡ f.0) × IsFree p.side (cells_in s) f.0
  free_keeps s t f =
      let inside : f.0 < p.side * p.side = f.1.0 in (
        ap (placement_of p.tiles) f.3 ∙ placement_of-slid_other p.side s.cells s.good f.0 inside p.tiles pat.tiles f.2,
        ap blank f.3 ∙ blank-slid p.side s.cells s.good f.0 inside,
        (inside, has-cells_in s f.0 inside ∙ f.2),
      )

  -- ---- free steps walk in a region

  -- a walk of the blank within its region is a row of free steps, from any board with that placement
  pub frees_from_joins : {cells : List ℕ} {c f : ℕ} → Joins p.side cells c f → (s : State p.side) → cells_in s ≡ cells → blank_in s ≡ c
      → (m : State p.side) × Ways.Frees (Free p.side p.tiles) (Paid p.side p.tiles) (Home p.side p.tiles) s m × (cells_in m ≡ cells) × (blank_in m ≡ f)
  frees_from_joins here s e z = (s, Ways.here, e, z)
  frees_from_joins (onward {c = c} {d = d} a free r) s e z =
      let tile : has p.tiles (at s.cells d) ≡ false = sym (has-cells_in s d a.0) ∙ ap (λ x. has x d) e ∙ free.1 in
      let t : State p.side = moved p.side p.tiles s d a.0 in
      let keeps : cells_in t ≡ cells_in s = placement_of-slid_other p.side s.cells s.good d a.0 p.tiles pat.tiles tile in
      let m = frees_from_joins r t (keeps ∙ e) (blank-slid p.side s.cells s.good d a.0) in
      (m.0, Ways.onward (d, subst (λ x. Adjacent p.side x d) (sym z) a, tile, refl) m.1, m.2, m.3)

  -- free steps keep the placement, and the blank in its region
  pub joins_from_frees : {s m : State p.side} → Ways.Frees (Free p.side p.tiles) (Paid p.side p.tiles) (Home p.side p.tiles) s m
      → Joins p.side (cells_in s) (blank_in s) (blank_in m) × (cells_in m ≡ cells_in s)
  joins_from_frees Ways.here = (here, refl)
  joins_from_frees (Ways.onward {s = s} {m = t} {t = m} f r) =
      let k = free_keeps s t f in
      let rest = joins_from_frees r in
      let on : Joins p.side (cells_in s) f.0 (blank_in m) =
      subst (λ q. Joins p.side q f.0 (blank_in m)) k.0 (subst (λ x. Joins p.side (cells_in t) x (blank_in m)) k.1 rest.0) in
      (onward f.1 k.2 on, rest.1 ∙ k.0)

  -- ---- one paid step leads to a neighbour, and back

  -- free steps and a paid one behind them lead to a neighbour of placement and blank
  pub near_from_one : (s t : State p.side) → Ways.One (Free p.side p.tiles) (Paid p.side p.tiles) (Home p.side p.tiles) s t
      → IsNear p.side (cells_in s) (blank_in s) (cells_in t) (blank_in t)
  near_from_one s t o =
      let m : State p.side = o.0 in
      let c : ℕ = o.2.0 in
      let inside : c < p.side * p.side = o.2.1.0 in
      let r = joins_from_frees o.1 in
      let i = at-has p.tiles (at m.cells c) o.2.2 in
      let t_blank : blank t.cells ≡ c = ap blank o.2.3 ∙ blank-slid p.side m.cells m.good c inside in
      record {
        to = blank m.cells;
        joined = r.0;
        index = i.0;
        is_index = (let e = length-cells_in s in let q : i.0 < length p.tiles = i.1 in omega arith);
        tile_cell = sym (t_blank ∙ sym (cell_of-content p.side m.cells m.good c inside) ∙ ap (λ x. cell_of x m.cells) (sym i.2)
            ∙ sym (get-placement_of p.tiles m.cells i.0 i.1) ∙ ap (λ q. get_or q i.0 0) r.1);
        adjacent = subst (λ x. Adjacent p.side (blank m.cells) x) (sym t_blank) o.2.1;
        moves =
            ap (placement_of p.tiles) o.2.3 ∙
            placement_of-slid_tile p.side m.cells m.good c inside p.tiles pat.tiles (apart_from_ascending p.tiles pat.ascending)
            (Adjacent-apart p.side (blank m.cells) c pat.low o.2.1) i.0 i.1 i.2 ∙
            ap (λ q. set q i.0 (blank m.cells)) r.1;
      }

  -- to each neighbour of a board's placement and blank, free steps and a paid one lead
  pub one_from_near : (s : State p.side) (cells : List ℕ) (c : ℕ) (q : List ℕ) (t : ℕ) → cells_in s ≡ cells → blank_in s ≡ c → IsNear p.side cells c q t
      → (u : State p.side) × Ways.One (Free p.side p.tiles) (Paid p.side p.tiles) (Home p.side p.tiles) s u × (cells_in u ≡ q) × (blank_in u ≡ t)
  one_from_near s cells c q t e z near =
      let m = frees_from_joins near.joined s e z in
      let i : ℕ = near.index in
      let low : i < length p.tiles = let w = length-cells_in s in let v : length (cells_in s) ≡ length cells = ap length e in
      let u : i < length cells = near.is_index in omega arith in
      let adj : Adjacent p.side (blank m.0.cells) t = subst (λ x. Adjacent p.side x t) (sym m.3) near.adjacent in
      let cell : cell_of (get_or p.tiles i 0) m.0.cells ≡ t = sym (get-placement_of p.tiles m.0.cells i low) ∙ ap (λ q. get_or q i 0) m.2 ∙ near.tile_cell in
      let tile : get_or p.tiles i 0 ≡ at m.0.cells t = sym
      (at-cell_of p.side m.0.cells m.0.good (get_or p.tiles i 0) (tile_at p.side p.tiles i pat.tiles low).1) ∙ ap (at m.0.cells) cell in (
        moved p.side p.tiles m.0 t adj.0,
        (m.0, m.1, (t, adj, has-at p.tiles (at m.0.cells t) i low tile, refl)),
        placement_of-slid_tile p.side m.0.cells m.0.good t adj.0 p.tiles pat.tiles (apart_from_ascending p.tiles pat.ascending)
            (Adjacent-apart p.side (blank m.0.cells) t pat.low adj) i low tile
            ∙ ap₂ (λ q x. set q i x) m.2 m.3 ∙ sym near.moves,
        blank-slid p.side m.0.cells m.0.good t adj.0,
      )

  -- ---- the goal's region

  home_placement : (ts b : List ℕ) → AllByRecursion (λ t. cell_of t b ≡ t) ts → placement_of ts b ≡ ts
  home_placement [] b all = refl
  home_placement (t ∷ ts) b all = ap₂ (λ x xs. x ∷ xs) all.0 (home_placement ts b all.1)

  placement_home : (ts b : List ℕ) → placement_of ts b ≡ ts → AllByRecursion (λ t. cell_of t b ≡ t) ts
  placement_home [] b e = tt
  placement_home (t ∷ ts) b e = (let h : cell_of t b ≡ t = cc in h, placement_home ts b (let h : placement_of ts b ≡ ts = cc in h))

  -- a board that free steps lead home has its placement and its blank in the goal's region
  pub goal_region : (s : State p.side) → Ways.IsGoal (Free p.side p.tiles) (Paid p.side p.tiles) (Home p.side p.tiles) s
      → IsGoalRegion p (cells_in s) (blank_in s)
  goal_region s g =
      let r = joins_from_frees g.1 in
      (sym r.1 ∙ home_placement p.tiles g.0.cells g.2.tiles_home, subst (λ x. Joins p.side (cells_in s) (blank_in s) x) g.2.blank_home r.0)

  -- a board with its placement and its blank in the goal's region is led home by free steps
  pub region_goal : (s : State p.side) → IsGoalRegion p (cells_in s) (blank_in s)
      → Ways.IsGoal (Free p.side p.tiles) (Paid p.side p.tiles) (Home p.side p.tiles) s
  region_goal s g =
      let m = frees_from_joins g.1 s refl refl in
      (m.0, m.1, record { tiles_home = placement_home p.tiles m.0.cells (m.2 ∙ g.0); blank_home = m.3 })
