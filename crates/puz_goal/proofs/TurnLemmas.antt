-- Cells, boards and paths turned by half a turn.
use Rattle.std.proofs.Common.{◌≡◌, ◌≢◌, ℕ, ◌+◌, ◌-◌, ◌*◌, ◌/◌, ◌%◌, ◌<◌, ◌≤◌, List, [], ◌∷◌, length, map, Some, inl, inr, refl, sym, ◌∙◌, ap, subst, arith}
use Rattle.std.proofs.Common.{eqb, ne_eqb}
use Rattle.std.proofs.lemmas.Bool.{cases_eq, cond-false, eqb-false}
use Rattle.std.proofs.lemmas.List.{ext_get_or}
use Rattle.std.proofs.lemmas.List.FromFn.{get_or-map-range_with_len, length-map-range_with_len}
use Rattle.puz_board.specs.Boards.{IsBoard, IsBoardOf, at, blank, side_of, slid}
use Rattle.puz_board.specs.Cells.{Adjacent, reverse_of, step_of}
use Rattle.puz_board.specs.Paths.{IsPath, Leads, after}
use Rattle.puz_board.specs.declared.moves.Move.{Move}
use Rattle.puz_board.specs.declared.moves.Move.TheVariants.{Up, Down, Left, Right}
use Rattle.puz_board.proofs.BoardLemmas.{IsBoardOf-slid, at-cell_of, at-slid_back, at-slid_other, at-slid_there, blank-slid, cell_of-below}
use Rattle.puz_board.proofs.BoardLemmas.{cell_of-is, cells_least, side_of-board}
use Rattle.puz_board.proofs.CellLemmas.{by_side, goes, stays, step_of-inside}
use Rattle.puz_goal.specs.Turning.{half_turned, turned_cell, turned_number, turned_on}

-- ---- cells and numbers

module _ (n : ℕ) where
  -- a cell turned is a cell of the board
  pub cell_below : (c : ℕ) → c < n * n → turned_cell n c < n * n
  cell_below c l = omega arith

  -- a cell turned twice is itself
  pub cell_twice : (c : ℕ) → c < n * n → turned_cell n (turned_cell n c) ≡ c
  cell_twice c l = omega arith

  -- what a tile becomes
  pub number_some : (t : ℕ) → t ≢ 0 → turned_number n t ≡ n * n - t
  number_some t some = cond-false (eqb t 0) 0 (n * n - t) (ne_eqb t 0 some)

  -- a number turned is a number of the board
  pub number_below : (t : ℕ) → t < n * n → turned_number n t < n * n
  number_below t l = elim (cases_eq t 0) [
    | inl none ↦ subst (λ x. turned_number n x < n * n) (sym none) (omega arith)
    | inr some ↦ let is = number_some t some in omega arith
  ]

  -- a number turned twice is itself
  pub number_twice : (t : ℕ) → t < n * n → turned_number n (turned_number n t) ≡ t
  number_twice t l = elim (cases_eq t 0) [
    | inl none ↦ subst (λ x. turned_number n (turned_number n x) ≡ x) (sym none) refl
    | inr some ↦
        let less : n * n - t ≢ 0 = λ e. omega arith in
        let rest : n * n - (n * n - t) ≡ t = omega arith in
        ap (turned_number n) (number_some t some) ∙ number_some (n * n - t) less ∙ rest
  ]

  -- numbers that turn into the same are the same
  pub number_one : (t u : ℕ) → t < n * n → u < n * n → turned_number n t ≡ turned_number n u → t ≡ u
  number_one t u l k e = sym (number_twice t l) ∙ ap (turned_number n) e ∙ number_twice u k

-- ---- moves

up_turned : (n : ℕ) → 2 ≤ n → n ≤ 5 → (c d : ℕ) → c < n * n → c / n ≢ 0 → c - n ≡ d → ((n * n - 1 - c) / n ≢ n - 1) × (n * n - 1 - c + n ≡ n * n - 1 - d)
up_turned = by_side (λ n. (c d : ℕ) → c < n * n → c / n ≢ 0 → c - n ≡ d → ((n * n - 1 - c) / n ≢ n - 1) × (n * n - 1 - c + n ≡ n * n - 1 - d))
    (λ c d l p e. omega arith) (λ c d l p e. omega arith) (λ c d l p e. omega arith) (λ c d l p e. omega arith)

down_turned : (n : ℕ) → 2 ≤ n → n ≤ 5 → (c d : ℕ) → c < n * n → c / n ≢ n - 1 → c + n ≡ d → ((n * n - 1 - c) / n ≢ 0) × (n * n - 1 - c - n ≡ n * n - 1 - d)
down_turned = by_side (λ n. (c d : ℕ) → c < n * n → c / n ≢ n - 1 → c + n ≡ d → ((n * n - 1 - c) / n ≢ 0) × (n * n - 1 - c - n ≡ n * n - 1 - d))
    (λ c d l p e. omega arith) (λ c d l p e. omega arith) (λ c d l p e. omega arith) (λ c d l p e. omega arith)

left_turned : (n : ℕ) → 2 ≤ n → n ≤ 5 → (c d : ℕ) → c < n * n → c % n ≢ 0 → c - 1 ≡ d → ((n * n - 1 - c) % n ≢ n - 1) × (n * n - 1 - c + 1 ≡ n * n - 1 - d)
left_turned = by_side (λ n. (c d : ℕ) → c < n * n → c % n ≢ 0 → c - 1 ≡ d → ((n * n - 1 - c) % n ≢ n - 1) × (n * n - 1 - c + 1 ≡ n * n - 1 - d))
    (λ c d l p e. omega arith) (λ c d l p e. omega arith) (λ c d l p e. omega arith) (λ c d l p e. omega arith)

right_turned : (n : ℕ) → 2 ≤ n → n ≤ 5 → (c d : ℕ) → c < n * n → c % n ≢ n - 1 → c + 1 ≡ d → ((n * n - 1 - c) % n ≢ 0) × (n * n - 1 - c - 1 ≡ n * n - 1 - d)
right_turned = by_side (λ n. (c d : ℕ) → c < n * n → c % n ≢ n - 1 → c + 1 ≡ d → ((n * n - 1 - c) % n ≢ 0) × (n * n - 1 - c - 1 ≡ n * n - 1 - d))
    (λ c d l p e. omega arith) (λ c d l p e. omega arith) (λ c d l p e. omega arith) (λ c d l p e. omega arith)

module _ (n : ℕ) (low : 2 ≤ n) (high : n ≤ 5) where
  -- where a move leads, the move in the opposite direction leads from the turned cell
  pub step_of-turned : (m : Move) (c d : ℕ) → c < n * n → step_of n c m ≡ Some d → step_of n (turned_cell n c) (reverse_of m) ≡ Some (turned_cell n d)
  step_of-turned Up c d l e =
      let way = stays (eqb (c / n) 0) (c - n) d e in
      let there = up_turned n low high c d l (eqb-false (c / n) 0 way.0) way.1 in
      goes (turned_cell n c / n) (n - 1) (turned_cell n c + n) (turned_cell n d) there.0 there.1
  step_of-turned Down c d l e =
      let way = stays (eqb (c / n) (n - 1)) (c + n) d e in
      let there = down_turned n low high c d l (eqb-false (c / n) (n - 1) way.0) way.1 in
      goes (turned_cell n c / n) 0 (turned_cell n c - n) (turned_cell n d) there.0 there.1
  step_of-turned Left c d l e =
      let way = stays (eqb (c % n) 0) (c - 1) d e in
      let there = left_turned n low high c d l (eqb-false (c % n) 0 way.0) way.1 in
      goes (turned_cell n c % n) (n - 1) (turned_cell n c + 1) (turned_cell n d) there.0 there.1
  step_of-turned Right c d l e =
      let way = stays (eqb (c % n) (n - 1)) (c + 1) d e in
      let there = right_turned n low high c d l (eqb-false (c % n) (n - 1) way.0) way.1 in
      goes (turned_cell n c % n) 0 (turned_cell n c - 1) (turned_cell n d) there.0 there.1

  Adjacent-turned : (c d : ℕ) → c < n * n → Adjacent n c d → Adjacent n (turned_cell n c) (turned_cell n d)
  Adjacent-turned c d l is = (cell_below n d is.0, reverse_of is.1, step_of-turned is.1 c d l is.2)

  -- a path turned, cell by cell, is a path from the turned cell
  pub IsPath-turned : (path : List ℕ) (c : ℕ) → c < n * n → IsPath n c path → IsPath n (turned_cell n c) (map (turned_cell n) path)
  IsPath-turned [] c l walk = tt
  IsPath-turned (d ∷ path) c l walk = (Adjacent-turned c d l walk.0, IsPath-turned path d walk.0.0 walk.1)

  -- moves that lead along a path lead along the turned path in the opposite directions
  pub Leads-turned : (ms : List Move) (path : List ℕ) (c : ℕ) → c < n * n → Leads n c ms path
      → Leads n (turned_cell n c) (map reverse_of ms) (map (turned_cell n) path)
  Leads-turned [] [] c l led = tt
  Leads-turned [] (d ∷ path) c l led = absurd led
  Leads-turned (m ∷ ms) [] c l led = absurd led
  Leads-turned (m ∷ ms) (d ∷ path) c l led =
      (step_of-turned m c d l led.0, Leads-turned ms path d (step_of-inside n c m d low high l led.0) led.1)

-- ---- boards

module _ (n : ℕ) (b : List ℕ) (good : IsBoardOf n b) where
  on_side : half_turned b ≡ turned_on n b
  unfolding half_turned
  on_side = ap (λ m. turned_on m b) (side_of-board n b good)

  -- in each cell of the turned board is the turned number of the turned cell
  pub at-turned : (c : ℕ) → c < n * n → at (half_turned b) c ≡ turned_number n (at b (turned_cell n c))
  at-turned c l = ap (λ x. at x c) on_side ∙ get_or-map-range_with_len (λ c. turned_number n (at b (turned_cell n c))) 0 (n * n) c c 0 l
      (let e : 0 + c ≡ c = omega arith in e)

  cell_one : (c d : ℕ) → c < n * n → d < n * n → turned_cell n c ≡ turned_cell n d → c ≡ d
  cell_one c d l k e = omega arith

  -- a board of side n turned is a board of side n
  pub IsBoardOf-turned : IsBoardOf n (half_turned b)
  IsBoardOf-turned = record {
    low = good.low;
    high = good.high;
    size = ap length on_side ∙ length-map-range_with_len (λ c. turned_number n (at b (turned_cell n c))) 0 (n * n);
    below = λ c l. subst (λ x. x < n * n) (sym (at-turned c l))
        (number_below n (at b (turned_cell n c)) (good.below (turned_cell n c) (cell_below n c l)));
    distinct = λ c d l k e.
        let same = number_one n (at b (turned_cell n c)) (at b (turned_cell n d)) (good.below (turned_cell n c) (cell_below n c l))
        (good.below (turned_cell n d) (cell_below n d k))
        (sym (at-turned c l) ∙ e ∙ at-turned d k) in
        cell_one c d l k (good.distinct (turned_cell n c) (turned_cell n d) (cell_below n c l) (cell_below n d k) same);
  }

  some_cell : 0 < n * n
  some_cell = let l = cells_least n b good in omega arith

  -- a board's blank is in a cell of it
  pub blank_inside : blank b < n * n
  blank_inside = cell_of-below n b good 0 some_cell

  -- the blank of a turned board is in the turned cell of the blank
  pub blank-turned : blank (half_turned b) ≡ turned_cell n (blank b)
  blank-turned = cell_of-is n (half_turned b) IsBoardOf-turned 0 (turned_cell n (blank b)) (cell_below n (blank b) blank_inside)
      (at-turned (turned_cell n (blank b)) (cell_below n (blank b) blank_inside) ∙
      ap (λ c. turned_number n (at b c)) (cell_twice n (blank b) blank_inside) ∙ ap (turned_number n) (at-cell_of n b good 0 some_cell))

module _ (n : ℕ) (b : List ℕ) (good : IsBoardOf n b) where
  turned : IsBoardOf n (half_turned b)
  turned = IsBoardOf-turned n b good

  -- a board turned twice is itself
  pub turned-twice : half_turned (half_turned b) ≡ b
  turned-twice = ext_get_or 0 (half_turned (half_turned b)) b (again.size ∙ sym good.size) (λ c low. each c (let e = again.size in omega arith))
    where
      again : IsBoardOf n (half_turned (half_turned b))
      again = IsBoardOf-turned n (half_turned b) turned

      each : (c : ℕ) → c < n * n → at (half_turned (half_turned b)) c ≡ at b c
      each c l =
          at-turned n (half_turned b) turned c l ∙
          ap (turned_number n) (at-turned n b good (turned_cell n c) (cell_below n c l)) ∙
          ap (λ x. turned_number n (turned_number n (at b x))) (cell_twice n c l) ∙
          number_twice n (at b c) (good.below c l)

  -- a slide of the turned board is the slide, turned
  pub slid-turned : (c : ℕ) → c < n * n → slid (half_turned b) (turned_cell n c) ≡ half_turned (slid b c)
  slid-turned c inside =
      ext_get_or 0 (slid (half_turned b) (turned_cell n c)) (half_turned (slid b c)) (one.size ∙ sym other.size)
      (λ x low. each x (let e = one.size in omega arith))
    where
      there : turned_cell n c < n * n
      there = cell_below n c inside

      on : IsBoardOf n (slid b c)
      on = IsBoardOf-slid n b good c inside

      one : IsBoardOf n (slid (half_turned b) (turned_cell n c))
      one = IsBoardOf-slid n (half_turned b) turned (turned_cell n c) there

      other : IsBoardOf n (half_turned (slid b c))
      other = IsBoardOf-turned n (slid b c) on

      home : blank b < n * n
      home = blank_inside n b good

      each : (x : ℕ) → x < n * n → at (slid (half_turned b) (turned_cell n c)) x ≡ at (half_turned (slid b c)) x
      each x l = elim (cases_eq x (turned_cell n c)) [
        | inl e ↦
            let back : turned_cell n x ≡ c = ap (turned_cell n) e ∙ cell_twice n c inside in
            ap (at (slid (half_turned b) (turned_cell n c))) e ∙ at-slid_there n (half_turned b) turned (turned_cell n c) there ∙
            sym (at-turned n (slid b c) on x l ∙ ap (λ y. turned_number n (at (slid b c) y)) back
            ∙ ap (turned_number n) (at-slid_there n b good c inside))
        | inr p ↦ elim (cases_eq x (blank (half_turned b))) [
          | inl e ↦
              let back : turned_cell n x ≡ blank b = ap (turned_cell n) (e ∙ blank-turned n b good) ∙ cell_twice n (blank b) home in
              ap (at (slid (half_turned b) (turned_cell n c))) e ∙
              at-slid_back n (half_turned b) turned (turned_cell n c) there (λ same. p (e ∙ same)) ∙
              at-turned n b good (turned_cell n c) there ∙ ap (λ y. turned_number n (at b y)) (cell_twice n c inside) ∙
              sym (at-turned n (slid b c) on x l ∙ ap (λ y. turned_number n (at (slid b c) y)) back ∙
              ap (turned_number n) (at-slid_back n b good c inside (λ same. p (e ∙ blank-turned n b good ∙ ap (turned_cell n) same))))
          | inr q ↦
              at-slid_other n (half_turned b) turned (turned_cell n c) there x p q ∙ at-turned n b good x l ∙
              sym (at-turned n (slid b c) on x l ∙ ap (turned_number n) (at-slid_other n b good c inside (turned_cell n x)
              (λ same. p (sym (cell_twice n x l) ∙ ap (turned_cell n) same))
              (λ same. q (sym (cell_twice n x l) ∙ ap (turned_cell n) same ∙ sym (blank-turned n b good)))))
        ]
      ]

-- ---- paths

module _ (n : ℕ) where
  onward : (b : List ℕ) → IsBoardOf n b → (c : ℕ) (cs : List ℕ) → IsPath n (blank b) (c ∷ cs) → IsPath n (blank (slid b c)) cs
  onward b good c cs walk = subst (λ x. IsPath n x cs) (sym (blank-slid n b good c walk.0.0)) walk.1

  -- the turned path leaves on the turned board what the path leaves, turned
  pub after-turned : (path b : List ℕ) → IsBoardOf n b → IsPath n (blank b) path
      → after (half_turned b) (map (turned_cell n) path) ≡ half_turned (after b path)
  after-turned [] b good walk = refl
  after-turned (c ∷ cs) b good walk =
      ap (λ x. after x (map (turned_cell n) cs)) (slid-turned n b good c walk.0.0) ∙
      after-turned cs (slid b c) (IsBoardOf-slid n b good c walk.0.0) (onward b good c cs walk)

  -- the turned path of a board's blank is a path of the turned board's blank
  pub walk-turned : (path b : List ℕ) → IsBoardOf n b → IsPath n (blank b) path → IsPath n (blank (half_turned b)) (map (turned_cell n) path)
  walk-turned path b good walk =
      subst (λ x. IsPath n x (map (turned_cell n) path)) (sym (blank-turned n b good))
      (IsPath-turned n good.low good.high path (blank b) (blank_inside n b good) walk)

-- ---- a board of its own side

-- a board turned has the same side
pub side_of-turned : (b : List ℕ) → IsBoard b → side_of (half_turned b) ≡ side_of b
side_of-turned b good = side_of-board (side_of b) (half_turned b) (IsBoardOf-turned (side_of b) b good)

-- and is a board of it
pub IsBoard-turned : (b : List ℕ) → IsBoard b → IsBoard (half_turned b)
IsBoard-turned b good = subst (λ n. IsBoardOf n (half_turned b)) (sym (side_of-turned b good)) (IsBoardOf-turned (side_of b) b good)
