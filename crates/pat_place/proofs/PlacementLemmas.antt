-- Placements: those of boards, and how they are stored.
use Rattle.std.proofs.Common.{◌≡◌, ◌≢◌, ℕ, zero, suc, ◌-◌, ◌*◌, ◌<◌, ◌≤◌, false, eqb, List, [], ◌∷◌, ◌++◌, length, take, drop, set, get_or, replicate}
use Rattle.std.proofs.Common.{refl, sym, ◌∙◌, ap, ap₂, subst, arith, length-append}
use Rattle.std.specs.List.{AllByRecursion}
use Rattle.std.proofs.lemmas.Bool.{or_parts, or_from, ne_eqb, eqb-false}
use Rattle.std.proofs.lemmas.List.{length-map, length-replicate, length-set, take_at, drop_at, take_all}
use Rattle.std.proofs.Math.Seq.{take-set-lt}
use Rattle.std.proofs.lemmas.List.{drop-set-lt}
use Rattle.puz_board.specs.Boards.{IsBoard, IsGoal, cell_of, side_of}
use Rattle.pat_place.specs.Patterns.{ShownPattern, IsPattern, has}
use Rattle.pat_place.specs.Placements.{ShownPlacement, IsPlacement, IsApart, IsFree, cells_found, placement_of}
use Rattle.pat_place.specs.StoredPlacements.{IsStoredPlacement, placement_shown}
use Rattle.pat_place.specs.declared.placements.Placement.TheInside.{Inside}
use Rattle.pat_place.proofs.ListLemmas.{apart_from_ascending}
use Rattle.pat_place.proofs.PatternLemmas.{few_tiles}
use Rattle.pat_place.proofs.BoardFacts.{cell_of-inside, cell_of-apart, cell_of-goal}

-- what is shown of a placement of this pattern with these cells
abbrev pub placed : ShownPattern → List ℕ → ShownPlacement
placed p cells = record { pattern = p; cells = cells }

-- ---- what is stored

module _ (p : ShownPattern) (good : IsPattern p) (cells : List ℕ) (is : IsPlacement (placed p cells)) (stored : List ℕ)
    (filled : stored ≡ cells ++ replicate (8 - length cells) 0) where
  abbrev fields : Inside
  fields = record { pattern = p; cells = stored }

  -- of an array of cells with zeros behind them, the cells that count are those cells
  pub shown-filled : take (length p.tiles) stored ≡ cells
  shown-filled = ap (take (length p.tiles)) filled ∙ take_at cells (replicate (8 - length cells) 0) (length p.tiles) is.size

  -- a pattern, and a placement's cells with zeros behind them, are the fields of a placement
  pub IsStoredPlacement-filled : IsStoredPlacement (record { pattern = p; cells = stored })
  IsStoredPlacement-filled = record {
    room =
        let few = few_tiles p good in
        let size = is.size in
        ap length filled ∙ (let e = length-append cells (replicate (8 - length cells) 0) in
        let f : length (replicate {A = ℕ} (8 - length cells) 0) ≡ 8 - length cells = length-replicate (8 - length cells) 0 in omega arith);
    pattern = good;
    placement = subst (λ xs. IsPlacement (placed p xs)) (sym shown-filled) is;
    rest = ap (drop (length p.tiles)) filled ∙ drop_at cells (replicate (8 - length cells) 0) (length p.tiles) is.size ∙ ap (λ k. replicate (8 - k) 0) is.size;
  }

-- the loop's end
pub filled_all : (xs stored : List ℕ) (i : ℕ) → length xs ≤ i → i ≤ length xs → stored ≡ take i xs ++ replicate (8 - i) 0
    → stored ≡ xs ++ replicate (8 - length xs) 0
filled_all xs stored i low high e = e ∙ ap₂ (λ ys k. ys ++ replicate (8 - k) 0) (take_all i xs low) (let e : i ≡ length xs = omega arith in e)

-- ---- the goal placement

weaker : (n : ℕ) (ts : List ℕ) → AllByRecursion (λ t. (0 < t) × (t < n)) ts → AllByRecursion (λ t. t < n) ts
weaker n [] all = tt
weaker n (t ∷ ts) all = (all.0.1, weaker n ts all.1)

-- a pattern's tiles, each in the cell of its own number, are a placement
pub IsPlacement-goal : (p : ShownPattern) → IsPattern p → IsPlacement (placed p p.tiles)
IsPlacement-goal p good = record {
  size = refl;
  inside = weaker (p.side * p.side) p.tiles good.tiles;
  apart = apart_from_ascending p.tiles good.ascending;
}

-- ---- the placement of a board

module _ (b : List ℕ) (board : IsBoard b) where
  abbrev Inner : List ℕ → Type 0
  Inner ts = AllByRecursion (λ t. (0 < t) × (t < side_of b * side_of b)) ts

  -- on the goal board each of some tiles is in the cell of its own number
  pub placement_of-goal : IsGoal b → (ts : List ℕ) → Inner ts → placement_of ts b ≡ ts
  placement_of-goal home [] all = refl
  placement_of-goal home (t ∷ ts) all = ap₂ (λ x xs. x ∷ xs) (cell_of-goal b board home t all.0.1) (placement_of-goal home ts all.1)

  inside-of : (ts : List ℕ) → Inner ts → AllByRecursion (λ c. c < side_of b * side_of b) (placement_of ts b)
  inside-of [] all = tt
  inside-of (t ∷ ts) all = (cell_of-inside b board t all.0.1, inside-of ts all.1)

  other : (t : ℕ) (ts : List ℕ) → t < side_of b * side_of b → Inner ts → has ts t ≡ false → has (placement_of ts b) (cell_of t b) ≡ false
  other t [] l all no_more = refl
  other t (u ∷ ts) l all no_more =
      let parts = or_parts (eqb u t) (has ts t) no_more in
      or_from (eqb (cell_of u b) (cell_of t b)) (has (placement_of ts b) (cell_of t b))
      (ne_eqb (cell_of u b) (cell_of t b) (λ e. eqb-false u t parts.0 (cell_of-apart b board u t all.0.1 l e)))
      (other t ts l all.1 parts.1)

  apart-of : (ts : List ℕ) → Inner ts → IsApart ts → IsApart (placement_of ts b)
  apart-of [] all apart = tt
  apart-of (t ∷ ts) all apart = (other t ts all.0.1 all.1 apart.0, apart-of ts all.1 apart.1)

  -- the cells of a pattern's tiles on a board of its side are a placement
  pub IsPlacement-of : (p : ShownPattern) → IsPattern p → side_of b ≡ p.side → IsPlacement (placed p (placement_of p.tiles b))
  IsPlacement-of p good e =
      let all : Inner p.tiles = subst (λ n. AllByRecursion (λ t. (0 < t) × (t < n * n)) p.tiles) (sym e) good.tiles in
      record {
        size = length-map p.tiles (λ t. cell_of t b);
        inside = subst (λ n. AllByRecursion (λ c. c < n * n) (placement_of p.tiles b)) e (inside-of p.tiles all);
        apart = apart-of p.tiles all (apart_from_ascending p.tiles good.ascending);
      }

-- ---- one tile moved

not_set : (xs : List ℕ) (i c d : ℕ) → has xs d ≡ false → c ≢ d → has (set xs i c) d ≡ false
not_set [] i c d out ne = refl
not_set (x ∷ xs) zero c d out ne = or_from (eqb c d) (has xs d) (ne_eqb c d ne) (or_parts (eqb x d) (has xs d) out).1
not_set (x ∷ xs) (suc i) c d out ne = let parts = or_parts (eqb x d) (has xs d) out in
    or_from (eqb x d) (has (set xs i c) d) parts.0 (not_set xs i c d parts.1 ne)

-- a number that a list hasn't, put at a place of it, leaves no number twice in it
pub IsApart-set : (xs : List ℕ) (i c : ℕ) → IsApart xs → has xs c ≡ false → IsApart (set xs i c)
IsApart-set [] i c apart out = tt
IsApart-set (x ∷ xs) zero c apart out = ((or_parts (eqb x c) (has xs c) out).1, apart.1)
IsApart-set (x ∷ xs) (suc i) c apart out =
    let parts = or_parts (eqb x c) (has xs c) out in
    (not_set xs i c x apart.0 (λ e. eqb-false x c parts.0 (sym e)), IsApart-set xs i c apart.1 parts.1)

inside-set : (n : ℕ) (xs : List ℕ) (i c : ℕ) → AllByRecursion (λ x. x < n) xs → c < n → AllByRecursion (λ x. x < n) (set xs i c)
inside-set n [] i c all l = tt
inside-set n (x ∷ xs) zero c all l = (l, all.1)
inside-set n (x ∷ xs) (suc i) c all l = (all.0, inside-set n xs i c all.1 l)

-- a placement with one tile put into a free cell is a placement
pub IsPlacement-moved : (p : ShownPlacement) → IsPlacement p → (i c : ℕ) → IsFree p.pattern.side p.cells c → IsPlacement (placed p.pattern (set p.cells i c))
IsPlacement-moved p is i c free = record {
  size = length-set p.cells i c ∙ is.size;
  inside = inside-set (p.pattern.side * p.pattern.side) p.cells i c is.inside free.0;
  apart = IsApart-set p.cells i c is.apart free.1;
}

module _ (s : Inside) (kept : IsStoredPlacement s) (i c : ℕ) (here : i < length (placement_shown s).cells)
    (free : IsFree s.pattern.side (placement_shown s).cells c) where
  within : i < length s.pattern.tiles
  within = let e = kept.placement.size in omega arith

  -- fields with one cell changed show the placement with that tile moved
  pub placement_shown-moved : placement_shown (record { pattern = s.pattern; cells = set s.cells i c }) ≡ placed s.pattern (set (placement_shown s).cells i c)
  placement_shown-moved = ap (placed s.pattern) (take-set-lt (length s.pattern.tiles) s.cells i c within)

  -- the fields of a placement, with one tile put into a free cell, are those of a placement
  pub IsStoredPlacement-moved : IsStoredPlacement (record { pattern = s.pattern; cells = set s.cells i c })
  IsStoredPlacement-moved = record {
    room = length-set s.cells i c ∙ kept.room;
    pattern = kept.pattern;
    placement = subst IsPlacement (sym placement_shown-moved) (IsPlacement-moved (placement_shown s) kept.placement i c free);
    rest = drop-set-lt (length s.pattern.tiles) s.cells i c within ∙ kept.rest;
  }

-- ---- the placement of a board whose cells were found

cells_same : (b found : List ℕ) (m : ℕ) → ((t : ℕ) → t < m → get_or found t 0 ≡ cell_of t b) → (ts : List ℕ)
    → AllByRecursion (λ t. (0 < t) × (t < m)) ts → cells_found ts found ≡ placement_of ts b
cells_same b found m each [] all = refl
cells_same b found m each (t ∷ ts) all = ap₂ (λ x xs. x ∷ xs) (each t all.0.1) (cells_same b found m each ts all.1)

-- the cells found for all numbers of a board give a pattern the placement of that board
pub cells_of_board : (b : List ℕ) → IsBoard b → (p : ShownPattern) → IsPattern p → side_of b ≡ p.side → (found : List ℕ)
    → ((t : ℕ) → t < length b → get_or found t 0 ≡ cell_of t b) → cells_found p.tiles found ≡ placement_of p.tiles b
cells_of_board b board p good side found each = cells_same b found (p.side * p.side)
    (λ t l. each t (let e = board.size in let s : side_of b * side_of b ≡ p.side * p.side = ap₂ (λ x y. x * y) side side in omega arith)) p.tiles good.tiles
