-- Boards, paths and costs transposed.
use Rattle.std.proofs.Common.{◌≡◌, ℕ, ◌+◌, ◌*◌, ◌<◌, ◌≤◌, ◌↔◌, ◌⊎◌, Bool, true, false, cond, List, [], ◌∷◌, length, map, inl, inr, refl, sym, ◌∙◌, ap}
use Rattle.std.proofs.Common.{ap₂, subst, arith}
use Rattle.std.specs.Prelude.{filter}
use Rattle.std.specs.List.{AllByRecursion, range_with_len}
use Rattle.std.proofs.lemmas.Bool.{cases_eq, cases_Bool, true≢false}
use Rattle.std.proofs.lemmas.List.{ext_get_or}
use Rattle.std.proofs.lemmas.List.FromFn.{get_or-map-range_with_len, length-map-range_with_len}
use Rattle.puz_board.specs.Boards.{IsBoardOf, IsGoal, at, blank, cell_of, slid}
use Rattle.puz_board.specs.Cells.{Adjacent, AreNext, IsBeside, column, row}
use Rattle.puz_board.specs.Costs.{IsHome, IsLeastCost, IsNeverHome, LeadsHome, cost, has}
use Rattle.puz_board.specs.Paths.{IsPath, after}
use Rattle.puz_board.specs.Transposing.{transposed, transposed_cell, transposed_on, transposed_tiles}
use Rattle.puz_board.proofs.BoardLemmas.{IsBoardOf-slid, at-cell_of, at-slid_back, at-slid_other, at-slid_there, blank-slid, cell_of-below}
use Rattle.puz_board.proofs.BoardLemmas.{cell_of-is, cells_least, side_of-board}
use Rattle.puz_board.proofs.CellLemmas.{beside-step_of, by_side, step_of-beside}
use Rattle.puz_board.proofs.HasLemmas.{all_from_has, has-filter, has-filter_not, has-range, has_from_all, in_range}

-- the second tiles are what the first become, in any order
abbrev pub AreTransposed : ℕ → List ℕ → List ℕ → Type 0
AreTransposed n tiles others = (t : ℕ) → t < n * n → has others t ≡ has tiles (transposed_cell n t)

-- ---- cells

-- the transposed cell of a cell of the board is a cell of the board
pub cell_below : (n : ℕ) → 2 ≤ n → n ≤ 5 → (c : ℕ) → c < n * n → transposed_cell n c < n * n
cell_below = by_side (λ n. (c : ℕ) → c < n * n → transposed_cell n c < n * n) (λ c l. omega arith) (λ c l. omega arith) (λ c l. omega arith)
    (λ c l. omega arith)

-- a cell transposed twice is itself
pub cell_twice : (n : ℕ) → 2 ≤ n → n ≤ 5 → (c : ℕ) → c < n * n → transposed_cell n (transposed_cell n c) ≡ c
cell_twice = by_side (λ n. (c : ℕ) → c < n * n → transposed_cell n (transposed_cell n c) ≡ c) (λ c l. omega arith) (λ c l. omega arith)
    (λ c l. omega arith) (λ c l. omega arith)

-- cell 0 is its own transposed cell
pub cell_zero : (n : ℕ) → 2 ≤ n → n ≤ 5 → transposed_cell n 0 ≡ 0
cell_zero = by_side (λ n. transposed_cell n 0 ≡ 0) refl refl refl refl

exchanged : (n : ℕ) → 2 ≤ n → n ≤ 5 → (c : ℕ) → c < n * n → (row n (transposed_cell n c) ≡ column n c) × (column n (transposed_cell n c) ≡ row n c)
exchanged = by_side (λ n. (c : ℕ) → c < n * n → (row n (transposed_cell n c) ≡ column n c) × (column n (transposed_cell n c) ≡ row n c))
    (λ c l. (omega arith, omega arith)) (λ c l. (omega arith, omega arith)) (λ c l. (omega arith, omega arith)) (λ c l. (omega arith, omega arith))

module _ (n : ℕ) (low : 2 ≤ n) (high : n ≤ 5) where
  beside : (c d : ℕ) → c < n * n → d < n * n → IsBeside n c d → IsBeside n (transposed_cell n c) (transposed_cell n d)
  beside c d l k is =
      let p = exchanged n low high c l in
      let q = exchanged n low high d k in
      elim is [
        | inl in_row ↦ inr (
          p.1 ∙ in_row.0 ∙ sym q.1,
          subst (λ x. AreNext x (row n (transposed_cell n d))) (sym p.0)
              (subst (AreNext (column n c)) (sym q.0) in_row.1),
        )
        | inr in_column ↦ inl (
          p.0 ∙ in_column.0 ∙ sym q.0,
          subst (λ x. AreNext x (column n (transposed_cell n d))) (sym p.1) (subst (AreNext (row n c)) (sym q.1) in_column.1),
        )
      ]

  -- the transposed cells of two adjacent cells are adjacent
  pub Adjacent-transposed : (c d : ℕ) → c < n * n → Adjacent n c d → Adjacent n (transposed_cell n c) (transposed_cell n d)
  Adjacent-transposed c d l is =
      let step = beside-step_of n (transposed_cell n c) (transposed_cell n d) low high (cell_below n low high c l) (cell_below n low high d is.0)
      (beside c d l is.0 (step_of-beside n c is.1 d low high l is.2)) in
      (cell_below n low high d is.0, step.0, step.1)

  -- a path, cell by cell transposed, is a path from the transposed cell
  pub IsPath-transposed : (path : List ℕ) (c : ℕ) → c < n * n → IsPath n c path → IsPath n (transposed_cell n c) (map (transposed_cell n) path)
  IsPath-transposed [] c l walk = tt
  IsPath-transposed (d ∷ path) c l walk = (Adjacent-transposed c d l walk.0, IsPath-transposed path d walk.0.0 walk.1)

-- ---- boards

module _ (n : ℕ) (b : List ℕ) (good : IsBoardOf n b) where
  on_side : transposed b ≡ transposed_on n b
  unfolding transposed
  on_side = ap (λ m. transposed_on m b) (side_of-board n b good)

  -- in each cell of the transposed board is the transposed number of the transposed cell
  pub at-transposed : (c : ℕ) → c < n * n → at (transposed b) c ≡ transposed_cell n (at b (transposed_cell n c))
  at-transposed c l = ap (λ x. at x c) on_side ∙ get_or-map-range_with_len (λ c. transposed_cell n (at b (transposed_cell n c))) 0 (n * n) c c 0 l
      (let e : 0 + c ≡ c = omega arith in e)

  below_of : (c : ℕ) → c < n * n → transposed_cell n c < n * n
  below_of = cell_below n good.low good.high

  twice_of : (c : ℕ) → c < n * n → transposed_cell n (transposed_cell n c) ≡ c
  twice_of = cell_twice n good.low good.high

  one_of : (c d : ℕ) → c < n * n → d < n * n → transposed_cell n c ≡ transposed_cell n d → c ≡ d
  one_of c d l k e = sym (twice_of c l) ∙ ap (transposed_cell n) e ∙ twice_of d k

  -- a board of side n transposed is a board of side n
  pub IsBoardOf-transposed : IsBoardOf n (transposed b)
  IsBoardOf-transposed = record {
    low = good.low;
    high = good.high;
    size = ap length on_side ∙ length-map-range_with_len (λ c. transposed_cell n (at b (transposed_cell n c))) 0 (n * n);
    below = λ c l. subst (λ x. x < n * n) (sym (at-transposed c l)) (below_of (at b (transposed_cell n c)) (good.below (transposed_cell n c) (below_of c l)));
    distinct = λ c d l k e.
        let same = one_of (at b (transposed_cell n c)) (at b (transposed_cell n d)) (good.below (transposed_cell n c) (below_of c l))
        (good.below (transposed_cell n d) (below_of d k))
        (sym (at-transposed c l) ∙ e ∙ at-transposed d k) in
        one_of c d l k (good.distinct (transposed_cell n c) (transposed_cell n d) (below_of c l) (below_of d k) same);
  }

  -- on the transposed board, a transposed number is in the transposed cell
  pub cell_of-transposed : (t : ℕ) → t < n * n → cell_of (transposed_cell n t) (transposed b) ≡ transposed_cell n (cell_of t b)
  cell_of-transposed t l =
      let c = cell_of t b in
      let inside = cell_of-below n b good t l in
      cell_of-is n (transposed b) IsBoardOf-transposed (transposed_cell n t) (transposed_cell n c) (below_of c inside)
      (at-transposed (transposed_cell n c) (below_of c inside) ∙ ap (λ x. transposed_cell n (at b x)) (twice_of c inside)
      ∙ ap (transposed_cell n) (at-cell_of n b good t l))

  some_cell : 0 < n * n
  some_cell = let l = cells_least n b good in omega arith

  -- the blank of a transposed board is in the transposed cell of the blank
  pub blank-transposed : blank (transposed b) ≡ transposed_cell n (blank b)
  blank-transposed = ap (λ t. cell_of t (transposed b)) (sym (cell_zero n good.low good.high)) ∙ cell_of-transposed 0 some_cell

module _ (n : ℕ) (b : List ℕ) (good : IsBoardOf n b) where
  turned : IsBoardOf n (transposed b)
  turned = IsBoardOf-transposed n b good

  -- a board transposed twice is itself
  pub transposed-twice : transposed (transposed b) ≡ b
  transposed-twice = ext_get_or 0 (transposed (transposed b)) b (again.size ∙ sym good.size) (λ c low. each c (let e = again.size in omega arith))
    where
      again : IsBoardOf n (transposed (transposed b))
      again = IsBoardOf-transposed n (transposed b) turned

      each : (c : ℕ) → c < n * n → at (transposed (transposed b)) c ≡ at b c
      each c l =
          at-transposed n (transposed b) turned c l ∙
          ap (transposed_cell n) (at-transposed n b good (transposed_cell n c) (below_of n b good c l)) ∙
          twice_of n b good (at b (transposed_cell n (transposed_cell n c))) (subst (λ x. at b x < n * n) (sym (twice_of n b good c l)) (good.below c l)) ∙
          ap (at b) (twice_of n b good c l)

  -- the goal board transposed is itself
  pub transposed-goal : IsGoal b → transposed b ≡ b
  transposed-goal goal = ext_get_or 0 (transposed b) b (turned.size ∙ sym good.size) (λ c low. each c (let e = turned.size in omega arith))
    where
      each : (c : ℕ) → c < n * n → at (transposed b) c ≡ at b c
      each c l =
          let s = good.size in
          let k = below_of n b good c l in
          at-transposed n b good c l ∙ ap (transposed_cell n) (goal (transposed_cell n c) (omega arith)) ∙ twice_of n b good c l ∙ sym (goal c (omega arith))

  -- a slide of the transposed board is the slide, transposed
  pub slid-transposed : (c : ℕ) → c < n * n → slid (transposed b) (transposed_cell n c) ≡ transposed (slid b c)
  slid-transposed c inside =
      ext_get_or 0 (slid (transposed b) (transposed_cell n c)) (transposed (slid b c)) (one.size ∙ sym other.size)
      (λ x low. each x (let e = one.size in omega arith))
    where
      there : transposed_cell n c < n * n
      there = below_of n b good c inside

      on : IsBoardOf n (slid b c)
      on = IsBoardOf-slid n b good c inside

      one : IsBoardOf n (slid (transposed b) (transposed_cell n c))
      one = IsBoardOf-slid n (transposed b) turned (transposed_cell n c) there

      other : IsBoardOf n (transposed (slid b c))
      other = IsBoardOf-transposed n (slid b c) on

      home : blank b < n * n
      home = cell_of-below n b good 0 (some_cell n b good)

      each : (x : ℕ) → x < n * n → at (slid (transposed b) (transposed_cell n c)) x ≡ at (transposed (slid b c)) x
      each x l = elim (cases_eq x (transposed_cell n c)) [
        | inl e ↦
            let back : transposed_cell n x ≡ c = ap (transposed_cell n) e ∙ twice_of n b good c inside in
            ap (at (slid (transposed b) (transposed_cell n c))) e ∙ at-slid_there n (transposed b) turned (transposed_cell n c) there ∙
            sym (at-transposed n (slid b c) on x l ∙ ap (λ y. transposed_cell n (at (slid b c) y)) back
            ∙ ap (transposed_cell n) (at-slid_there n b good c inside) ∙ cell_zero n good.low good.high)
        | inr p ↦ elim (cases_eq x (blank (transposed b))) [
          | inl e ↦
              let back : transposed_cell n x ≡ blank b = ap (transposed_cell n) (e ∙ blank-transposed n b good) ∙ twice_of n b good (blank b) home in
              ap (at (slid (transposed b) (transposed_cell n c))) e ∙
              at-slid_back n (transposed b) turned (transposed_cell n c) there (λ same. p (e ∙ same)) ∙
              at-transposed n b good (transposed_cell n c) there ∙ ap (λ y. transposed_cell n (at b y)) (twice_of n b good c inside) ∙
              sym (at-transposed n (slid b c) on x l ∙ ap (λ y. transposed_cell n (at (slid b c) y)) back ∙
              ap (transposed_cell n) (at-slid_back n b good c inside (λ same. p (e ∙ blank-transposed n b good ∙ ap (transposed_cell n) same))))
          | inr q ↦
              at-slid_other n (transposed b) turned (transposed_cell n c) there x p q ∙ at-transposed n b good x l ∙
              sym (at-transposed n (slid b c) on x l ∙ ap (transposed_cell n) (at-slid_other n b good c inside (transposed_cell n x)
              (λ same. p (sym (twice_of n b good x l) ∙ ap (transposed_cell n) same))
              (λ same. q (sym (twice_of n b good x l) ∙ ap (transposed_cell n) same ∙ sym (blank-transposed n b good)))))
        ]
      ]

-- ---- paths

-- a path of the blank leaves a board of the same side
pub IsBoardOf-after : (n : ℕ) (path b : List ℕ) → IsBoardOf n b → IsPath n (blank b) path → IsBoardOf n (after b path)
IsBoardOf-after n [] b good walk = good
IsBoardOf-after n (c ∷ cs) b good walk =
    IsBoardOf-after n cs (slid b c) (IsBoardOf-slid n b good c walk.0.0) (subst (λ x. IsPath n x cs) (sym (blank-slid n b good c walk.0.0)) walk.1)

module _ (n : ℕ) where
  onward : (b : List ℕ) → IsBoardOf n b → (c : ℕ) (cs : List ℕ) → IsPath n (blank b) (c ∷ cs) → IsPath n (blank (slid b c)) cs
  onward b good c cs walk = subst (λ x. IsPath n x cs) (sym (blank-slid n b good c walk.0.0)) walk.1

  -- the transposed path leaves on the transposed board what the path leaves, transposed
  pub after-transposed : (path b : List ℕ) → IsBoardOf n b → IsPath n (blank b) path
      → after (transposed b) (map (transposed_cell n) path) ≡ transposed (after b path)
  after-transposed [] b good walk = refl
  after-transposed (c ∷ cs) b good walk =
      ap (λ x. after x (map (transposed_cell n) cs)) (slid-transposed n b good c walk.0.0) ∙
      after-transposed cs (slid b c) (IsBoardOf-slid n b good c walk.0.0) (onward b good c cs walk)

  -- the transposed path of a board's blank is a path of the transposed board's blank
  pub walk-transposed : (path b : List ℕ) → IsBoardOf n b → IsPath n (blank b) path → IsPath n (blank (transposed b)) (map (transposed_cell n) path)
  walk-transposed path b good walk =
      subst (λ x. IsPath n x (map (transposed_cell n) path)) (sym (blank-transposed n b good))
      (IsPath-transposed n good.low good.high path (blank b) (cell_of-below n b good 0 (some_cell n b good)) walk)

  -- ---- costs

  module _ (tiles others : List ℕ) (are : AreTransposed n tiles others) where
    -- a path costs the transposed tiles what its transposed path costs the tiles on the transposed board
    pub cost-transposed : (path b : List ℕ) → IsBoardOf n b → IsPath n (blank b) path
        → cost others b path ≡ cost tiles (transposed b) (map (transposed_cell n) path)
    cost-transposed [] b good walk = refl
    cost-transposed (c ∷ cs) b good walk =
        let inside = walk.0.0 in
        let moved : at (transposed b) (transposed_cell n c) ≡ transposed_cell n (at b c) =
        at-transposed n b good (transposed_cell n c) (below_of n b good c inside) ∙ ap (λ x. transposed_cell n (at b x)) (twice_of n b good c inside) in
        let paid : has others (at b c) ≡ has tiles (at (transposed b) (transposed_cell n c)) = are (at b c) (good.below c inside)
        ∙ ap (has tiles) (sym moved) in
        let rest : cost others (slid b c) cs ≡ cost tiles (slid (transposed b) (transposed_cell n c)) (map (transposed_cell n) cs) =
        cost-transposed cs (slid b c) (IsBoardOf-slid n b good c inside) (onward b good c cs walk) ∙
        ap (λ x. cost tiles x (map (transposed_cell n) cs)) (sym (slid-transposed n b good c inside)) in
        ap₂ (λ h k. cond h 1 0 + k) paid rest

    module _ (inside : (t : ℕ) → has tiles t ≡ true → t < n * n) where
      home-transposed : (b : List ℕ) → IsBoardOf n b → ((t : ℕ) → has others t ≡ true → cell_of t b ≡ t) → (t : ℕ) → has tiles t ≡ true
          → cell_of t (transposed b) ≡ t
      home-transposed b good home t is =
          let l = inside t is in
          let k = below_of n b good t l in
          let back = twice_of n b good t l in
          let at_home : cell_of (transposed_cell n t) b ≡ transposed_cell n t =
          home (transposed_cell n t) (are (transposed_cell n t) k ∙ ap (has tiles) back ∙ is) in
          ap (λ x. cell_of x (transposed b)) (sym back) ∙ cell_of-transposed n b good (transposed_cell n t) k ∙ ap (transposed_cell n) at_home ∙ back

-- ---- least costs

has-chosen : (p : ℕ → Bool) (a m t : ℕ) → a ≤ t → t < a + m → has (filter p (range_with_len a m)) t ≡ p t
has-chosen p a m t low high = go (cases_Bool (p t))
  where
    go : (p t ≡ true) ⊎ (p t ≡ false) → has (filter p (range_with_len a m)) t ≡ p t
    go (inl holds) = has-filter p t (range_with_len a m) holds ∙ has-range a m t low high ∙ sym holds
    go (inr fails) = has-filter_not p t (range_with_len a m) fails ∙ sym fails

chosen_below : (p : ℕ → Bool) (m t : ℕ) → has (filter p (range_with_len 0 m)) t ≡ true → t < m
chosen_below p m t is = go (cases_Bool (p t))
  where
    go : (p t ≡ true) ⊎ (p t ≡ false) → t < m
    go (inl holds) = let inside = (in_range 0 m t (sym (has-filter p t (range_with_len 0 m) holds) ∙ is)).1 in omega (arith, inside)
    go (inr fails) = absurd (true≢false (sym is ∙ has-filter_not p t (range_with_len 0 m) fails))

module _ (n : ℕ) where
  -- each of these tiles is below the count of cells of side n
  abbrev pub AreInside : List ℕ → Type 0
  AreInside tiles = (t : ℕ) → has tiles t ≡ true → t < n * n

  -- a path that leads some tiles home leads the tiles that they become home on the transposed board
  pub leads-transposed : (tiles others : List ℕ) → AreTransposed n tiles others → AreInside tiles → (b : List ℕ) → IsBoardOf n b → (path : List ℕ)
      → LeadsHome others b path
      → LeadsHome tiles (transposed b) (map (transposed_cell n) path)
  leads-transposed tiles others are inside b good path leads =
      let walk : IsPath n (blank b) path = subst (λ m. IsPath m (blank b) path) (side_of-board n b good) leads.walk in
      let turned_board = IsBoardOf-transposed n b good in
      let end : IsBoardOf n (after b path) = IsBoardOf-after n path b good walk in
      let ends = sym (after-transposed n path b good walk) in
      record {
        walk = subst (λ m. IsPath m (blank (transposed b)) (map (transposed_cell n) path)) (sym (side_of-board n (transposed b) turned_board))
            (walk-transposed n path b good walk);
        ends = subst (IsHome tiles) ends (record {
          tiles_home = all_from_has (λ t. cell_of t (transposed (after b path)) ≡ t) tiles
              (home-transposed n tiles others are inside (after b path) end
              (λ t is. has_from_all (λ t. cell_of t (after b path) ≡ t) others t leads.ends.tiles_home is));
          blank_home = blank-transposed n (after b path) end ∙ ap (transposed_cell n) leads.ends.blank_home ∙ cell_zero n good.low good.high;
        });
      }

  -- and back
  back_again : (tiles others : List ℕ) → 2 ≤ n → n ≤ 5 → AreTransposed n tiles others → AreTransposed n others tiles
  back_again tiles others low high are t l = sym (are (transposed_cell n t) (cell_below n low high t l) ∙ ap (has tiles) (cell_twice n low high t l))

  least-transposed : (tiles others : List ℕ) → AreTransposed n tiles others → AreInside tiles → AreInside others → (b : List ℕ) → IsBoardOf n b → (d : ℕ)
      → IsLeastCost others b d → IsLeastCost tiles (transposed b) d
  least-transposed tiles others are inside also b good d is =
      let turned_board = IsBoardOf-transposed n b good in
      let walk : IsPath n (blank b) is.path = subst (λ m. IsPath m (blank b) is.path) (side_of-board n b good) is.leads.walk in
      record {
        path = map (transposed_cell n) is.path;
        leads = leads-transposed tiles others are inside b good is.path is.leads;
        costs = sym (cost-transposed n tiles others are is.path b good walk) ∙ is.costs;
        least = λ other leads.
            let on : IsPath n (blank (transposed b)) other = subst (λ m. IsPath m (blank (transposed b)) other)
            (side_of-board n (transposed b) turned_board) leads.walk in
            let ways = back_again tiles others good.low good.high are in
            let there = leads-transposed others tiles ways also (transposed b) turned_board other leads in
            let again = transposed-twice n b good in
            let low : d ≤ cost others b (map (transposed_cell n) other) =
            is.least (map (transposed_cell n) other) (subst (λ c. LeadsHome others c (map (transposed_cell n) other)) again there) in
            let same : cost tiles (transposed b) other ≡ cost others b (map (transposed_cell n) other) =
            cost-transposed n others tiles ways other (transposed b) turned_board on ∙ ap (λ c. cost others c (map (transposed_cell n) other)) again in
            subst (λ k. d ≤ k) (sym same) low;
      }

  never-transposed : (tiles others : List ℕ) → AreTransposed n tiles others → AreInside others → (b : List ℕ) → IsBoardOf n b → IsNeverHome others b
      → IsNeverHome tiles (transposed b)
  never-transposed tiles others are also b good never other leads =
      let there = leads-transposed others tiles (back_again tiles others good.low good.high are) also (transposed b)
      (IsBoardOf-transposed n b good) other leads in
      never (map (transposed_cell n) other) (subst (λ c. LeadsHome others c (map (transposed_cell n) other)) (transposed-twice n b good) there)

  -- ---- the tiles that a pattern's become

  -- the tiles made by transposing are what the tiles become
  pub transposed_tiles-are : (tiles : List ℕ) → AreTransposed n tiles (transposed_tiles n tiles)
  transposed_tiles-are tiles t l = has-chosen (λ t. has tiles (transposed_cell n t)) 0 (n * n) t (omega arith) (omega arith)

  -- the tiles made by transposing are below the count of cells
  pub transposed_tiles-inside : (tiles : List ℕ) → AreInside (transposed_tiles n tiles)
  transposed_tiles-inside tiles t is = chosen_below (λ t. has tiles (transposed_cell n t)) (n * n) t is

  module _ (tiles : List ℕ) (all : AllByRecursion (λ t. t < n * n) tiles) (b : List ℕ) (good : IsBoardOf n b) where
    inside_all : AreInside tiles
    inside_all t is = has_from_all (λ t. t < n * n) tiles t all is

    -- a cost is the least of the transposed tiles on a board where it is that of the tiles on the transposed board
    pub least_costs : (d : ℕ) → IsLeastCost (transposed_tiles n tiles) b d ↔ IsLeastCost tiles (transposed b) d
    least_costs d = (
      least-transposed tiles (transposed_tiles n tiles) (transposed_tiles-are tiles) inside_all (transposed_tiles-inside tiles) b good d,
      λ is. subst (λ c. IsLeastCost (transposed_tiles n tiles) c d) (transposed-twice n b good)
          (least-transposed (transposed_tiles n tiles) tiles (back_again tiles (transposed_tiles n tiles) good.low good.high (transposed_tiles-are tiles))
          (transposed_tiles-inside tiles) inside_all (transposed b) (IsBoardOf-transposed n b good) d is),
    )

    -- transposed tiles never come home on a board where the tiles never do on the transposed board
    pub nevers : IsNeverHome (transposed_tiles n tiles) b ↔ IsNeverHome tiles (transposed b)
    nevers = (
      never-transposed tiles (transposed_tiles n tiles) (transposed_tiles-are tiles) (transposed_tiles-inside tiles) b good,
      λ is. subst (IsNeverHome (transposed_tiles n tiles)) (transposed-twice n b good)
          (never-transposed (transposed_tiles n tiles) tiles (back_again tiles (transposed_tiles n tiles) good.low good.high (transposed_tiles-are tiles))
          inside_all (transposed b) (IsBoardOf-transposed n b good) is),
    )
