-- Every placement with a free cell is that of a board with its blank there: made from the goal board by exchanges.
use Rattle.std.proofs.Common.{◌≡◌, ◌≢◌, ℕ, zero, suc, ◌+◌, ◌*◌, ◌<◌, ◌≤◌, false, eqb, ◌⊎◌, List, [], ◌∷◌, length, set, inl, inr, refl, sym, ◌∙◌, ap}
use Rattle.std.proofs.Common.{ap₂, arith, get_or-set_same, get_or-set_other, length-set}
use Rattle.std.proofs.lemmas.Bool.{cases_eq, or_parts, or_from, ne_eqb, eqb-false}
use Rattle.std.proofs.lemmas.List.FromFn.{length-range_with_len}
use Rattle.std.specs.List.{AllByRecursion, range_with_len}
use Rattle.puz_board.specs.Boards.{IsBoardOf, at, blank, cell_of}
use Rattle.puz_board.proofs.BoardLemmas.{at-cell_of, cell_of-below, cell_of-is, cells_least}
use Rattle.pat_place.specs.BoardLaws.{HasBoard}
use Rattle.pat_place.specs.Patterns.{IsPattern, has}
use Rattle.pat_place.specs.Placements.{ShownPlacement, IsPlacement, IsApart, IsFree, placement_of}
use Rattle.pat_place.proofs.ListLemmas.{apart_from_ascending}

unfoldable exchanged : List ℕ → ℕ → ℕ → List ℕ
exchanged b z c = set (set b z (at b c)) c (at b z)

module _ (n : ℕ) (b : List ℕ) (good : IsBoardOf n b) (z : ℕ) (z_in : z < n * n) (c : ℕ) (c_in : c < n * n) where
  at-exchanged_there : at (exchanged b z c) c ≡ at b z
  unfolding exchanged
  at-exchanged_there = get_or-set_same (set b z (at b c)) c (at b z) 0 (let e = length-set b z (at b c) in let s = good.size in omega arith)

  at-exchanged_back : z ≢ c → at (exchanged b z c) z ≡ at b c
  unfolding exchanged
  at-exchanged_back ne = get_or-set_other (set b z (at b c)) c z (at b z) 0 ne ∙ get_or-set_same b z (at b c) 0 (let s = good.size in omega arith)

  at-exchanged_other : (x : ℕ) → x ≢ c → x ≢ z → at (exchanged b z c) x ≡ at b x
  unfolding exchanged
  at-exchanged_other x p q = get_or-set_other (set b z (at b c)) c x (at b z) 0 p ∙ get_or-set_other b z x (at b c) 0 q

  length-exchanged : length (exchanged b z c) ≡ n * n
  unfolding exchanged
  length-exchanged = length-set (set b z (at b c)) c (at b z) ∙ length-set b z (at b c) ∙ good.size

  origin : (x : ℕ) → (x < n * n) → (y : ℕ) × (y < n * n) × (at (exchanged b z c) x ≡ at b y)
      × (((x ≡ c) × (y ≡ z)) ⊎ ((x ≡ z) × (y ≡ c)) ⊎ ((x ≢ c) × (x ≢ z) × (y ≡ x)))
  origin x l = elim (cases_eq x c) [
    | inl e ↦ (z, z_in, ap (at (exchanged b z c)) e ∙ at-exchanged_there, inl (e, refl))
    | inr p ↦ elim (cases_eq x z) [
      | inl e ↦ (c, c_in, ap (at (exchanged b z c)) e ∙ at-exchanged_back (λ q. p (e ∙ q)), inr (inl (e, refl)))
      | inr q ↦ (x, l, at-exchanged_other x p q, inr (inr (p, q, refl)))
    ]
  ]

  IsBoardOf-exchanged : IsBoardOf n (exchanged b z c)
  IsBoardOf-exchanged = record {
    low = good.low;
    high = good.high;
    size = length-exchanged;
    below = λ x l. let o = origin x l in let e : at (exchanged b z c) x ≡ at b o.0 = o.2 in let w : at b o.0 < n * n = good.below o.0 o.1 in omega arith;
    distinct = λ x y l k e. let o = origin x l in let u = origin y k in same x y o.0 u.0 (good.distinct o.0 u.0 o.1 u.1 (sym o.2 ∙ e ∙ u.2)) o.3 u.3;
  }
    where
      same : (x y o u : ℕ) → o ≡ u → (((x ≡ c) × (o ≡ z)) ⊎ ((x ≡ z) × (o ≡ c)) ⊎ ((x ≢ c) × (x ≢ z) × (o ≡ x)))
          → (((y ≡ c) × (u ≡ z)) ⊎ ((y ≡ z) × (u ≡ c)) ⊎ ((y ≢ c) × (y ≢ z) × (u ≡ y))) → x ≡ y
      same x y o u e p q = omega arith

abbrev arranged : List ℕ → List ℕ → List ℕ → List ℕ
arranged b [] cs = b
arranged b (t ∷ ts) [] = b
arranged b (t ∷ ts) (c ∷ cs) = arranged (exchanged b (cell_of t b) c) ts cs

module _ (n : ℕ) where
  IsBoardOf-arranged : (ts cs b : List ℕ) → IsBoardOf n b → AllByRecursion (λ t. t < n * n) ts → AllByRecursion (λ c. c < n * n) cs
      → IsBoardOf n (arranged b ts cs)
  IsBoardOf-arranged [] cs b good tiles cells = good
  IsBoardOf-arranged (t ∷ ts) [] b good tiles cells = good
  IsBoardOf-arranged (t ∷ ts) (c ∷ cs) b good tiles cells =
      IsBoardOf-arranged ts cs (exchanged b (cell_of t b) c)
      (IsBoardOf-exchanged n b good (cell_of t b) (cell_of-below n b good t tiles.0) c cells.0) tiles.1 cells.1

  -- a tile that is not arranged, in a cell that is not wanted, stays
  stays : (ts cs b : List ℕ) → IsBoardOf n b → AllByRecursion (λ t. t < n * n) ts → AllByRecursion (λ c. c < n * n) cs
      → (x : ℕ) → x < n * n → has ts x ≡ false → has cs (cell_of x b) ≡ false → cell_of x (arranged b ts cs) ≡ cell_of x b
  stays [] cs b good tiles cells x l other apart = refl
  stays (t ∷ ts) [] b good tiles cells x l other apart = refl
  stays (t ∷ ts) (c ∷ cs) b good tiles cells x l other apart =
      let y : ℕ = cell_of x b in
      let y_in : y < n * n = cell_of-below n b good x l in
      let z : ℕ = cell_of t b in
      let z_in : z < n * n = cell_of-below n b good t tiles.0 in
      let o = or_parts (eqb t x) (has ts x) other in
      let a = or_parts (eqb c y) (has cs y) apart in
      let not_c : y ≢ c = λ e. eqb-false c y a.0 (sym e) in
      let not_z : y ≢ z = λ e. eqb-false t x o.0 (sym (at-cell_of n b good t tiles.0) ∙ ap (at b) (sym e) ∙ at-cell_of n b good x l) in
      let once : IsBoardOf n (exchanged b z c) = IsBoardOf-exchanged n b good z z_in c cells.0 in
      let here : cell_of x (exchanged b z c) ≡ y = cell_of-is n (exchanged b z c) once x y y_in
      (at-exchanged_other n b good z z_in c cells.0 y not_c not_z ∙ at-cell_of n b good x l) in
      stays ts cs (exchanged b z c) once tiles.1 cells.1 x l o.1 (ap (has cs) here ∙ a.1) ∙ here

  placed : (ts cs b : List ℕ) → IsBoardOf n b → AllByRecursion (λ t. t < n * n) ts → AllByRecursion (λ c. c < n * n) cs → IsApart ts → IsApart cs
      → length ts ≡ length cs
      → placement_of ts (arranged b ts cs) ≡ cs
  placed [] [] b good tiles cells apart_t apart_c e = refl
  placed [] (c ∷ cs) b good tiles cells apart_t apart_c e = absurd (omega arith)
  placed (t ∷ ts) [] b good tiles cells apart_t apart_c e = absurd (omega arith)
  placed (t ∷ ts) (c ∷ cs) b good tiles cells apart_t apart_c e =
      let z : ℕ = cell_of t b in
      let z_in : z < n * n = cell_of-below n b good t tiles.0 in
      let once : IsBoardOf n (exchanged b z c) = IsBoardOf-exchanged n b good z z_in c cells.0 in
      let here : cell_of t (exchanged b z c) ≡ c = cell_of-is n (exchanged b z c) once t c cells.0
      (at-exchanged_there n b good z z_in c cells.0 ∙ at-cell_of n b good t tiles.0) in
      ap₂ (λ x xs. x ∷ xs)
      (stays ts cs (exchanged b z c) once tiles.1 cells.1 t tiles.0 apart_t.0 (ap (has cs) here ∙ apart_c.0) ∙ here)
      (placed ts cs (exchanged b z c) once tiles.1 cells.1 apart_t.1 apart_c.1 (omega arith))

-- ---- the goal board

get-range : (first count c : ℕ) → c < count → at (range_with_len first count) c ≡ first + c
get-range first zero c l = absurd (omega arith)
get-range first (suc count) zero l = omega arith
get-range first (suc count) (suc c) l = let e : at (range_with_len (first + 1) count) c ≡ first + 1 + c =
    get-range (first + 1) count c (omega arith) in omega arith

IsBoardOf-goal : (n : ℕ) → 2 ≤ n → n ≤ 5 → IsBoardOf n (range_with_len 0 (n * n))
IsBoardOf-goal n low high = record {
  low = low;
  high = high;
  size = length-range_with_len 0 (n * n);
  below = λ c l. let e = get-range 0 (n * n) c l in omega arith;
  distinct = λ c d l k e. let p = get-range 0 (n * n) c l in let q = get-range 0 (n * n) d k in omega arith;
}

tiles_below : (n : ℕ) (ts : List ℕ) → AllByRecursion (λ t. (0 < t) × (t < n * n)) ts → AllByRecursion (λ t. t < n * n) ts
tiles_below n [] all = tt
tiles_below n (t ∷ ts) all = (all.0.1, tiles_below n ts all.1)

-- among numbers that are all greater than 0, as tiles are, there is no blank
pub no_blank : (n : ℕ) (ts : List ℕ) → AllByRecursion (λ t. (0 < t) × (t < n * n)) ts → has ts 0 ≡ false
no_blank n [] all = refl
no_blank n (t ∷ ts) all = let big : 0 < t = all.0.0 in or_from (eqb t 0) (has ts 0) (ne_eqb t 0 (λ e. omega arith)) (no_blank n ts all.1)

-- the blank and the tiles of the pattern are arranged, one after the other
pub board_of : (p : ShownPlacement) → IsPattern p.pattern → IsPlacement p → (c : ℕ) → IsFree p.pattern.side p.cells c → HasBoard p c
board_of p pat place c free =
    record {
      board = arranged goal (0 ∷ ts) (c ∷ p.cells);
      is_board = IsBoardOf-arranged n (0 ∷ ts) (c ∷ p.cells) goal good (some, tiles_below n ts pat.tiles) (free.0, place.inside);
      places = (let h = all in let e : placement_of ts (arranged goal (0 ∷ ts) (c ∷ p.cells)) ≡ p.cells = cc in e);
      blank_cell = (let h = all in let e : blank (arranged goal (0 ∷ ts) (c ∷ p.cells)) ≡ c = cc in e);
    }
  where
    n : ℕ
    n = p.pattern.side

    ts : List ℕ
    ts = p.pattern.tiles

    goal : List ℕ
    goal = range_with_len 0 (n * n)

    good : IsBoardOf n goal
    good = IsBoardOf-goal n pat.low pat.high

    some : 0 < n * n
    some = let l = cells_least n goal good in omega arith

    all : placement_of (0 ∷ ts) (arranged goal (0 ∷ ts) (c ∷ p.cells)) ≡ c ∷ p.cells
    all = placed n (0 ∷ ts) (c ∷ p.cells) goal good (some, tiles_below n ts pat.tiles) (free.0, place.inside)
        (no_blank n ts pat.tiles, apart_from_ascending ts pat.ascending) (free.1, place.apart) (let e = place.size in omega arith)
