-- Each number of a board has one cell, and a slide leaves a board.
use Rattle.std.proofs.Common.{◌≡◌, ◌≢◌, ℕ, zero, suc, ◌+◌, ◌*◌, ◌<◌, ◌≤◌, Bool, true, false, cond, eqb, ◌⊎◌, List, [], ◌∷◌, length, set, inl, inr}
use Rattle.std.proofs.Common.{refl, sym, ◌∙◌, ap, subst, arith, get_or-set_same, get_or-set_other, length-set, eq-eqb, ne_eqb}
use Rattle.std.proofs.lemmas.Bool.{cases_eq, cond-true, cond-false, cases_lt, eqb-true, and_parts, and_from}
use Rattle.std.specs.List.{enumerate_from, list_all}
use Rattle.puz_board.specs.Boards.{IsBoard, IsBoardOf, IsGoal, at, blank, cell_of, is_goal, side_of, side_of_count, slid}
use Rattle.puz_board.proofs.CellLemmas.{by_side}

-- ---- the cell of a number

cell_of-at : (b : List ℕ) (i : ℕ) → ((c d : ℕ) → c < length b → d < length b → at b c ≡ at b d → c ≡ d) → i < length b → cell_of (at b i) b ≡ i
cell_of-at [] i one l = absurd (omega arith)
cell_of-at (x ∷ xs) zero one l = cond-true (eqb x x) 0 (suc (cell_of x xs)) (eq-eqb x x refl)
cell_of-at (x ∷ xs) (suc i) one l =
    cond-false (eqb x (at xs i)) 0 (suc (cell_of (at xs i) xs)) (ne_eqb x (at xs i) (λ e. let z : 0 ≡ suc i = one 0 (suc i) (omega arith) l e in omega arith))
    ∙ ap suc (cell_of-at xs i (λ c d h k e. let q : suc c ≡ suc d = one (suc c) (suc d) (omega arith) (omega arith) e in omega arith) (omega arith))

-- a number is in a list, or it isn't
found : (t : ℕ) (b : List ℕ) → ((i : ℕ) × (i < length b) × (at b i ≡ t)) ⊎ ((i : ℕ) → i < length b → at b i ≢ t)
found t [] = inr (λ i l. absurd (omega arith))
found t (x ∷ xs) = elim (cases_eq x t) [
  | inl e ↦ inl (0, omega arith, e)
  | inr n ↦ elim (found t xs) [
    | inl h ↦ inl (suc h.0, omega arith, h.2)
    | inr miss ↦ inr (λ i. both miss n i)
  ]
]
  where
    both : ((i : ℕ) → i < length xs → at xs i ≢ t) → (x ≡ t → ⊥) → (i : ℕ) → i < length (x ∷ xs) → at (x ∷ xs) i ≢ t
    both miss n zero l = n
    both miss n (suc i) l = miss i (omega arith)

-- ---- the pigeonhole principle

abbrev avoiding : (ℕ → ℕ) → ℕ → ℕ → ℕ → ℕ
avoiding f m last i = cond (eqb (f i) m) (f last) (f i)

avoids : (x m y : ℕ) → ((x ≡ m) × (cond (eqb x m) y x ≡ y)) ⊎ ((x ≢ m) × (cond (eqb x m) y x ≡ x))
avoids x m y = elim (cases_eq x m) [ inl e ↦ inl (e, cond-true (eqb x m) y x (eq-eqb x m e)) | inr ne ↦ inr (ne, cond-false (eqb x m) y x (ne_eqb x m ne)) ]

-- a function from numbers below n to numbers below m that makes no two equal needs n to be m at most
pub pigeonhole : (n m : ℕ) (f : ℕ → ℕ) → ((i : ℕ) → i < n → f i < m) → ((i j : ℕ) → i < n → j < n → f i ≡ f j → i ≡ j) → n ≤ m
pigeonhole zero m f into one = omega arith
pigeonhole (suc n) zero f into one = absurd (omega (arith, into n (omega arith)))
pigeonhole (suc n) (suc m) f into one = let h : n ≤ m = pigeonhole n m (avoiding f m n) less one_less in omega arith
  where
    less : (i : ℕ) → i < n → avoiding f m n i < m
    less i p =
        let a : f i < suc m = into i (omega arith) in
        let b : f n < suc m = into n (omega arith) in
        let ne : f i ≢ f n = λ e. let z : i ≡ n = one i n (omega arith) (omega arith) e in omega arith in
        elim (avoids (f i) m (f n)) [ inl w ↦ omega (arith, w.0, w.1) | inr w ↦ omega (arith, w.0, w.1) ]

    one_less : (i j : ℕ) → i < n → j < n → avoiding f m n i ≡ avoiding f m n j → i ≡ j
    one_less i j p q e =
        elim (avoids (f i) m (f n)) [
          | inl v ↦ elim (avoids (f j) m (f n)) [
            | inl w ↦ one i j (omega arith) (omega arith) (v.0 ∙ sym w.0)
            | inr w ↦ let z : n ≡ j = one n j (omega arith) (omega arith) (sym v.1 ∙ e ∙ w.1) in absurd (omega arith)
          ]
          | inr v ↦ elim (avoids (f j) m (f n)) [
            | inl w ↦ let z : i ≡ n = one i n (omega arith) (omega arith) (sym v.1 ∙ e ∙ w.1) in absurd (omega arith)
            | inr w ↦ one i j (omega arith) (omega arith) (sym v.1 ∙ e ∙ w.1)
          ]
        ]

-- ---- boards

abbrev one_more_at : List ℕ → ℕ → ℕ → ℕ → ℕ
one_more_at b last t i = cond (eqb i last) t (at b i)

module _ (n : ℕ) (b : List ℕ) (good : IsBoardOf n b) where
  one_cell : (c d : ℕ) → c < length b → d < length b → at b c ≡ at b d → c ≡ d
  one_cell c d p q e = good.distinct c d (let s = good.size in omega arith) (let s = good.size in omega arith) e

  -- the cell of the number in c is c
  pub cell_of-content : (c : ℕ) → c < n * n → cell_of (at b c) b ≡ c
  cell_of-content c l = cell_of-at b c one_cell (let s = good.size in omega arith)

  -- a cell of the board with the number t in it is the cell of t
  pub cell_of-is : (t c : ℕ) → c < n * n → at b c ≡ t → cell_of t b ≡ c
  cell_of-is t c l e = ap (λ x. cell_of x b) (sym e) ∙ cell_of-content c l

  -- each number below n * n has a cell
  pub has_cell : (t : ℕ) → t < n * n → (c : ℕ) × (c < n * n) × (at b c ≡ t)
  has_cell t l = elim (found t b) [
    | inl h ↦ (h.0, let s = good.size in let p : h.0 < length b = h.1 in omega arith, h.2)
    | inr miss ↦ absurd (none miss)
  ]
    where
      none : ((i : ℕ) → i < length b → at b i ≢ t) → ⊥
      none miss = let big : suc (n * n) ≤ n * n = pigeonhole (suc (n * n)) (n * n) (one_more_at b (n * n) t) into one in omega arith
        where
          s : length b ≡ n * n
          s = good.size

          f_last : (i : ℕ) → i ≡ n * n → one_more_at b (n * n) t i ≡ t
          f_last i e = cond-true (eqb i (n * n)) t (at b i) (eq-eqb i (n * n) e)

          f_in : (i : ℕ) → i < n * n → one_more_at b (n * n) t i ≡ at b i
          f_in i l = cond-false (eqb i (n * n)) t (at b i) (ne_eqb i (n * n) (λ e. omega arith))

          into : (i : ℕ) → i < suc (n * n) → one_more_at b (n * n) t i < n * n
          into i p = elim (cases_lt i (n * n)) [
            | inl q ↦ let a = f_in i q in let w = good.below i q in omega arith
            | inr q ↦ let a = f_last i (omega arith) in omega arith
          ]

          one : (i j : ℕ) → i < suc (n * n) → j < suc (n * n) → one_more_at b (n * n) t i ≡ one_more_at b (n * n) t j → i ≡ j
          one i j p q e = elim (cases_lt i (n * n)) [
            | inl u ↦ elim (cases_lt j (n * n)) [
              | inl v ↦ good.distinct i j u v (sym (f_in i u) ∙ e ∙ f_in j v)
              | inr v ↦ absurd (miss i (omega arith) (sym (f_in i u) ∙ e ∙ f_last j (omega arith)))
            ]
            | inr u ↦ elim (cases_lt j (n * n)) [
              | inl v ↦ absurd (miss j (omega arith) (sym (f_in j v) ∙ sym e ∙ f_last i (omega arith)))
              | inr v ↦ omega arith
            ]
          ]

  -- each number below the count of cells has a cell on the board
  pub cell_of-below : (t : ℕ) → t < n * n → cell_of t b < n * n
  cell_of-below t l =
      let h = has_cell t l in
      let e : cell_of t b ≡ h.0 = cell_of-is t h.0 h.1 h.2 in
      let p : h.0 < n * n = h.1 in
      omega arith

  -- the cell of a number has this number in it
  pub at-cell_of : (t : ℕ) → t < n * n → at b (cell_of t b) ≡ t
  at-cell_of t l = let h = has_cell t l in ap (at b) (cell_of-is t h.0 h.1 h.2) ∙ h.2

-- ---- how many cells

square_above : (n : ℕ) → 2 ≤ n → 4 ≤ n * n
square_above n l = grind arith

square_below : (n : ℕ) → n ≤ 5 → n * n ≤ 25
square_below n l = grind arith

-- a board has 4 cells at least and 25 at most
pub cells_least : (n : ℕ) (b : List ℕ) → IsBoardOf n b → 4 ≤ n * n
cells_least n b good = square_above n good.low

-- a board of any side has 25 cells at most
pub cells_most : (n : ℕ) (b : List ℕ) → IsBoardOf n b → n * n ≤ 25
cells_most n b good = square_below n good.high

-- the side of a square count of cells is the root of the count, for sides from 2 to 5
pub side_of_count-square : (n : ℕ) → 2 ≤ n → n ≤ 5 → side_of_count (n * n) ≡ n
unfolding side_of_count
side_of_count-square = by_side (λ n. side_of_count (n * n) ≡ n) refl refl refl refl

-- a board of side n has the side n
pub side_of-board : (n : ℕ) (b : List ℕ) → IsBoardOf n b → side_of b ≡ n
side_of-board n b good = ap side_of_count good.size ∙ side_of_count-square n good.low good.high

abbrev side_by : Bool → Bool → Bool → Bool → ℕ
side_by a b c d = cond a 2 (cond b 3 (cond c 4 (cond d 5 0)))

-- a count that has a side is its square
pub side_of_count-sized : (count : ℕ) → side_of_count count ≢ 0 → (2 ≤ side_of_count count) × (side_of_count count ≤ 5)
    × (count ≡ side_of_count count * side_of_count count)
unfolding side_of_count
side_of_count-sized count ne = go (eqb count 4) (eqb count 9) (eqb count 16) (eqb count 25) (eqb-true count 4) (eqb-true count 9) (eqb-true count 16)
    (eqb-true count 25) ne
  where
    go : (a b c d : Bool) → (a ≡ true → count ≡ 4) → (b ≡ true → count ≡ 9) → (c ≡ true → count ≡ 16) → (d ≡ true → count ≡ 25)
        → side_by a b c d ≢ 0 → (2 ≤ side_by a b c d) × (side_by a b c d ≤ 5) × (count ≡ side_by a b c d * side_by a b c d)
    go true b c d p q r s ne = (omega arith, omega arith, p refl)
    go false true c d p q r s ne = (omega arith, omega arith, q refl)
    go false false true d p q r s ne = (omega arith, omega arith, r refl)
    go false false false true p q r s ne = (omega arith, omega arith, s refl)
    go false false false false p q r s ne = absurd (ne refl)

-- ---- a slide

module _ (n : ℕ) (b : List ℕ) (good : IsBoardOf n b) (c : ℕ) (inside : c < n * n) where
  some_cell : 0 < n * n
  some_cell = omega arith

  z_below : blank b < n * n
  z_below = cell_of-below n b good 0 some_cell

  -- the cell of the blank has the number 0 in it
  pub at_blank : at b (blank b) ≡ 0
  at_blank = at-cell_of n b good 0 some_cell

  -- after a slide, the blank is in the cell to which it went
  pub at-slid_there : at (slid b c) c ≡ 0
  unfolding slid
  at-slid_there = get_or-set_same (set b (blank b) (at b c)) c 0 0 (let e = length-set b (blank b) (at b c) in let s = good.size in omega arith)

  -- after a slide to another cell, the number of that cell is in the cell that the blank left
  pub at-slid_back : blank b ≢ c → at (slid b c) (blank b) ≡ at b c
  unfolding slid
  at-slid_back ne =
      get_or-set_other (set b (blank b) (at b c)) c (blank b) 0 0 ne ∙
      get_or-set_same b (blank b) (at b c) 0 (let s = good.size in let w = z_below in omega arith)

  -- a slide leaves the number of every cell but the two that change places
  pub at-slid_other : (x : ℕ) → x ≢ c → x ≢ blank b → at (slid b c) x ≡ at b x
  unfolding slid
  at-slid_other x p q = get_or-set_other (set b (blank b) (at b c)) c x 0 0 p ∙ get_or-set_other b (blank b) x (at b c) 0 q

  -- where the content of a cell comes from
  origin : (x : ℕ) → (x < n * n) → (y : ℕ) × (y < n * n) × (at (slid b c) x ≡ at b y)
      × (((x ≡ c) × (y ≡ blank b)) ⊎ ((x ≡ blank b) × (y ≡ c)) ⊎ ((x ≢ c) × (x ≢ blank b) × (y ≡ x)))
  origin x l = elim (cases_eq x c) [
    | inl e ↦ (blank b, z_below, ap (at (slid b c)) e ∙ at-slid_there ∙ sym at_blank, inl (e, refl))
    | inr p ↦ elim (cases_eq x (blank b)) [
      | inl e ↦ (c, inside, ap (at (slid b c)) e ∙ at-slid_back (λ q. p (e ∙ q)), inr (inl (e, refl)))
      | inr q ↦ (x, l, at-slid_other x p q, inr (inr (p, q, refl)))
    ]
  ]

  -- a slide leaves the count of a board's numbers
  pub length-slid : length (slid b c) ≡ length b
  unfolding slid
  length-slid = length-set (set b (blank b) (at b c)) c 0 ∙ length-set b (blank b) (at b c)

  -- a slide leaves the side of a board
  pub side_of-slid : side_of (slid b c) ≡ side_of b
  side_of-slid = ap side_of_count length-slid

  -- a slide of the blank to any cell of a board of side n leaves a board of side n
  pub IsBoardOf-slid : IsBoardOf n (slid b c)
  IsBoardOf-slid = record {
    low = good.low;
    high = good.high;
    size = length-slid ∙ good.size;
    below = λ x l.
        let o = origin x l in
        let f : at (slid b c) x ≡ at b o.0 = o.2 in
        let w : at b o.0 < n * n = good.below o.0 o.1 in omega arith;
    distinct = λ x y l k e.
        let o = origin x l in
        let u = origin y k in
        same x y o.0 u.0 (good.distinct o.0 u.0 o.1 u.1 (sym o.2 ∙ e ∙ u.2)) o.3 u.3;
  }
    where
      same : (x y o u : ℕ) → o ≡ u → (((x ≡ c) × (o ≡ blank b)) ⊎ ((x ≡ blank b) × (o ≡ c)) ⊎ ((x ≢ c) × (x ≢ blank b) × (o ≡ x)))
          → (((y ≡ c) × (u ≡ blank b)) ⊎ ((y ≡ blank b) × (u ≡ c)) ⊎ ((y ≢ c) × (y ≢ blank b) × (u ≡ y))) → x ≡ y
      same x y o u e p q = omega arith

  -- after a slide, the cell of the blank is the cell to which it went
  pub blank-slid : blank (slid b c) ≡ c
  blank-slid = cell_of-is n (slid b c) IsBoardOf-slid 0 c inside at-slid_there

-- a slide of the blank to any cell of a board leaves a board of its own side
pub IsBoard-slid : (b : List ℕ) → IsBoard b → (c : ℕ) → c < side_of b * side_of b → IsBoard (slid b c)
IsBoard-slid b good c inside =
    subst (λ n. IsBoardOf n (slid b c)) (sym (side_of-slid (side_of b) b good c inside)) (IsBoardOf-slid (side_of b) b good c inside)

-- ---- the goal board

in_order : (i : ℕ) (b : List ℕ) → list_all (λ (c, x). eqb x c) (enumerate_from i b) ≡ true → (c : ℕ) → c < length b → at b c ≡ i + c
in_order i [] e c l = absurd (omega arith)
in_order i (x ∷ b) e zero l = let both = and_parts (eqb x i) _ e in let same = eqb-true x i both.0 in omega arith
in_order i (x ∷ b) e (suc c) l = let both = and_parts (eqb x i) _ e in let next = in_order (i + 1) b both.1 c (omega arith) in omega arith

ordered : (i : ℕ) (b : List ℕ) → ((c : ℕ) → c < length b → at b c ≡ i + c) → list_all (λ (c, x). eqb x c) (enumerate_from i b) ≡ true
ordered i [] h = refl
ordered i (x ∷ b) h =
    let first : x ≡ i + 0 = h 0 (omega arith) in
    let same : x ≡ i = omega arith in
    and_from (eqb x i) _ (eq-eqb x i same) (ordered (i + 1) b (λ c l. let next : at b c ≡ i + suc c = h (suc c) (omega arith) in omega arith))

-- the test for the goal says yes of each goal board
pub is_goal-goal : (b : List ℕ) → IsGoal b → is_goal b ≡ true
unfolding is_goal
is_goal-goal b goal = ordered 0 b (λ c l. let here = goal c l in omega arith)

-- a board of which the test for the goal says yes is a goal board
pub goal-is_goal : (b : List ℕ) → is_goal b ≡ true → IsGoal b
unfolding is_goal
goal-is_goal b e c l = let here = in_order 0 b e c l in omega arith
