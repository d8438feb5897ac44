-- No placement has more than W regions.
use Rattle.std.proofs.Common.{◌≡◌, ℕ, zero, suc, ◌+◌, ◌-◌, ◌*◌, ◌<◌, ◌≤◌, Bool, true, false, eqb, ltb, not, ◌⊎◌, List, [], ◌∷◌, length, Option, Some}
use Rattle.std.proofs.Common.{None, inl, inr, refl, sym, ◌∙◌, ap, subst, arith}
use Rattle.std.proofs.lemmas.Bool.{cases_eq, cases_lt, both_ways, and_parts, or_cases, eqb-true, ltb-true, true≢false, not-true}
use Rattle.std.specs.Prelude.{◌&&◌, ◌||◌}
use Rattle.std.specs.List.{AllByRecursion}
use Rattle.puz_board.specs.declared.moves.Move.TheVariants.{Up, Down, Left, Right}
use Rattle.puz_board.specs.Boards.{at}
use Rattle.puz_board.specs.Cells.{step_of, Adjacent}
use Rattle.puz_board.specs.Paths.{IsPath}
use Rattle.puz_board.proofs.BoardLemmas.{pigeonhole}
use Rattle.puz_board.proofs.CellLemmas.{by_side}
use Rattle.pat_place.specs.Patterns.{has, width}
use Rattle.pat_place.specs.Placements.{IsApart, IsFree}
use Rattle.pat_place.specs.Regions.{here, onward, Joins, IsLeader, IsCount, IsSlot}
use Rattle.pat_place.proofs.JoinLemmas.{Decided, joins_decided, Joins-trans, Joins-free, Joins-sym}
use Rattle.pat_place.proofs.ListLemmas.{has-at, at-has, apart_at}
use Rattle.pat_place.proofs.SlotLemmas.{least_below, count_place, count_one, leader_one}

-- ---- a path through all cells, row by row, to and fro

abbrev is_step : Option ℕ → ℕ → Bool
is_step None d = false
is_step (Some c) d = eqb c d

abbrev linked : ℕ → ℕ → List ℕ → Bool
linked n c [] = true
linked n c (d ∷ ds) = (ltb d (n * n) && (is_step (step_of n c Up)
    d || (is_step (step_of n c Down) d || (is_step (step_of n c Left) d || is_step (step_of n c Right) d)))) && linked n d ds

step-is : (o : Option ℕ) (d : ℕ) → is_step o d ≡ true → o ≡ Some d
step-is None d e = absurd (true≢false (sym e))
step-is (Some c) d e = ap Some (eqb-true c d e)

path_from_linked : (n c : ℕ) (ds : List ℕ) → linked n c ds ≡ true → IsPath n c ds
path_from_linked n c [] e = tt
path_from_linked n c (d ∷ ds) e = let parts = and_parts
    (ltb d (n * n) && (is_step (step_of n c Up) d || (is_step
    (step_of n c Down) d || (is_step (step_of n c Left) d || is_step (step_of n c Right) d)))) (linked n d ds) e in (
      first (and_parts (ltb d (n * n)) (is_step (step_of n c Up)
          d || (is_step (step_of n c Down) d || (is_step (step_of n c Left) d || is_step (step_of n c Right) d))) parts.0),
      path_from_linked n d ds parts.1,
    )
  where
    first : ((ltb d (n * n) ≡ true) × ((is_step (step_of n c Up)
        d || (is_step (step_of n c Down) d || (is_step (step_of n c Left) d || is_step (step_of n c Right) d))) ≡ true)) → Adjacent n c d
    first h = elim (or_cases (is_step (step_of n c Up) d)
        (is_step (step_of n c Down) d || (is_step (step_of n c Left) d || is_step (step_of n c Right) d)) h.1) [
          | inl e ↦ (ltb-true d (n * n) h.0, Up, step-is (step_of n c Up) d e)
          | inr r ↦ elim (or_cases (is_step (step_of n c Down) d) (is_step (step_of n c Left) d || is_step (step_of n c Right) d) r) [
            | inl e ↦ (ltb-true d (n * n) h.0, Down, step-is (step_of n c Down) d e)
            | inr r ↦ elim (or_cases (is_step (step_of n c Left) d) (is_step (step_of n c Right) d) r) [
              | inl e ↦ (ltb-true d (n * n) h.0, Left, step-is (step_of n c Left) d e)
              | inr e ↦ (ltb-true d (n * n) h.0, Right, step-is (step_of n c Right) d e)
            ]
          ]
        ]

-- all numbers below m are in the list
abbrev holds_all : ℕ → List ℕ → Bool
holds_all zero xs = true
holds_all (suc m) xs = has xs m && holds_all m xs

holds-at : (m : ℕ) (xs : List ℕ) (c : ℕ) → holds_all m xs ≡ true → c < m → has xs c ≡ true
holds-at zero xs c e l = absurd (omega arith)
holds-at (suc m) xs c e l = let parts = and_parts (has xs m) (holds_all m xs) e in
    elim (cases_eq c m) [ inl same ↦ ap (has xs) same ∙ parts.0 | inr ne ↦ holds-at m xs c parts.1 (omega arith) ]

abbrev all_apart : List ℕ → Bool
all_apart [] = true
all_apart (x ∷ xs) = not (has xs x) && all_apart xs

apart_from : (xs : List ℕ) → all_apart xs ≡ true → IsApart xs
apart_from [] e = tt
apart_from (x ∷ xs) e = let parts = and_parts (not (has xs x)) (all_apart xs) e in (not-true (has xs x) parts.0, apart_from xs parts.1)

record Tour (n : ℕ) : Type 0 where
  rest : List ℕ
  walk : IsPath n 0 rest
  onto : (c : ℕ) → c < n * n → has (0 ∷ rest) c ≡ true
  apart : IsApart (0 ∷ rest)

tour : (n : ℕ) → 2 ≤ n → n ≤ 5 → Tour n
tour = by_side Tour
    (record {
      rest = 1 ∷ 3 ∷ 2 ∷ [];
      walk = path_from_linked 2 0 (1 ∷ 3 ∷ 2 ∷ []) refl;
      onto = λ c l. holds-at 4 (0 ∷ 1 ∷ 3 ∷ 2 ∷ []) c refl l;
      apart = apart_from (0 ∷ 1 ∷ 3 ∷ 2 ∷ []) refl;
    })
    (record {
      rest = 1 ∷ 2 ∷ 5 ∷ 4 ∷ 3 ∷ 6 ∷ 7 ∷ 8 ∷ [];
      walk = path_from_linked 3 0 (1 ∷ 2 ∷ 5 ∷ 4 ∷ 3 ∷ 6 ∷ 7 ∷ 8 ∷ []) refl;
      onto = λ c l. holds-at 9 (0 ∷ 1 ∷ 2 ∷ 5 ∷ 4 ∷ 3 ∷ 6 ∷ 7 ∷ 8 ∷ []) c refl l;
      apart = apart_from (0 ∷ 1 ∷ 2 ∷ 5 ∷ 4 ∷ 3 ∷ 6 ∷ 7 ∷ 8 ∷ []) refl;
    })
    (record {
      rest = 1 ∷ 2 ∷ 3 ∷ 7 ∷ 6 ∷ 5 ∷ 4 ∷ 8 ∷ 9 ∷ 10 ∷ 11 ∷ 15 ∷ 14 ∷ 13 ∷ 12 ∷ [];
      walk = path_from_linked 4 0 (1 ∷ 2 ∷ 3 ∷ 7 ∷ 6 ∷ 5 ∷ 4 ∷ 8 ∷ 9 ∷ 10 ∷ 11 ∷ 15 ∷ 14 ∷ 13 ∷ 12 ∷ []) refl;
      onto = λ c l. holds-at 16 (0 ∷ 1 ∷ 2 ∷ 3 ∷ 7 ∷ 6 ∷ 5 ∷ 4 ∷ 8 ∷ 9 ∷ 10 ∷ 11 ∷ 15 ∷ 14 ∷ 13 ∷ 12 ∷ []) c refl l;
      apart = apart_from (0 ∷ 1 ∷ 2 ∷ 3 ∷ 7 ∷ 6 ∷ 5 ∷ 4 ∷ 8 ∷ 9 ∷ 10 ∷ 11 ∷ 15 ∷ 14 ∷ 13 ∷ 12 ∷ []) refl;
    })
    (record {
      rest = 1 ∷ 2 ∷ 3 ∷ 4 ∷ 9 ∷ 8 ∷ 7 ∷ 6 ∷ 5 ∷ 10 ∷ 11 ∷ 12 ∷ 13 ∷ 14 ∷ 19 ∷ 18 ∷ 17 ∷ 16 ∷ 15 ∷ 20 ∷ 21 ∷ 22 ∷ 23 ∷ 24 ∷ [];
      walk = path_from_linked 5 0 (1 ∷ 2 ∷ 3 ∷ 4 ∷ 9 ∷ 8 ∷ 7 ∷ 6 ∷ 5 ∷ 10 ∷ 11 ∷ 12 ∷ 13 ∷ 14 ∷ 19 ∷ 18 ∷ 17 ∷ 16 ∷ 15 ∷ 20 ∷ 21 ∷ 22 ∷ 23 ∷ 24
          ∷ []) refl;
      onto = λ c l. holds-at 25 (0 ∷ 1 ∷ 2 ∷ 3 ∷ 4 ∷ 9 ∷ 8 ∷ 7 ∷ 6 ∷ 5 ∷ 10 ∷ 11 ∷ 12 ∷ 13 ∷ 14 ∷ 19 ∷ 18 ∷ 17 ∷ 16 ∷ 15 ∷ 20 ∷ 21 ∷ 22
          ∷ 23 ∷ 24 ∷ []) c refl l;
      apart = apart_from (0 ∷ 1 ∷ 2 ∷ 3 ∷ 4 ∷ 9 ∷ 8 ∷ 7 ∷ 6 ∷ 5 ∷ 10 ∷ 11 ∷ 12 ∷ 13 ∷ 14 ∷ 19 ∷ 18 ∷ 17 ∷ 16 ∷ 15 ∷ 20
          ∷ 21 ∷ 22 ∷ 23 ∷ 24 ∷ []) refl;
    })

path_at : (n c : ℕ) (ds : List ℕ) (i : ℕ) → IsPath n c ds → i < length ds → Adjacent n (at (c ∷ ds) i) (at (c ∷ ds) (suc i))
path_at n c [] i w l = absurd (omega arith)
path_at n c (d ∷ ds) zero w l = w.0
path_at n c (d ∷ ds) (suc i) w l = path_at n d ds i w.1 (omega arith)

path_below : (n c : ℕ) (ds : List ℕ) (i : ℕ) → c < n * n → IsPath n c ds → i < length (c ∷ ds) → at (c ∷ ds) i < n * n
path_below n c ds zero l w k = l
path_below n c [] (suc i) l w k = absurd (omega arith)
path_below n c (d ∷ ds) (suc i) l w k = path_below n d ds i w.0.0 w.1 (omega arith)

-- ---- the pigeonhole principle for a relation

module _ (n m : ℕ) (R : ℕ → ℕ → Type 0) (total : (i : ℕ) → i < n → (y : ℕ) × (y < m) × R i y) (one : (i j y : ℕ) → i < n → j < n → R i y → R j y → i ≡ j) where
  pick : (i : ℕ) → (i < n) ⊎ (n ≤ i) → ℕ
  pick i (inl l) = (total i l).0
  pick i (inr l) = 0

  pick-is : (i : ℕ) (x : (i < n) ⊎ (n ≤ i)) → i < n → (pick i x < m) × R i (pick i x)
  unfolding pick
  pick-is i (inl l) k = ((total i l).1, (total i l).2)
  pick-is i (inr l) k = absurd (omega arith)

  -- things with marks below m, no mark for two of them, are at most m
  pub pigeonhole_by : n ≤ m
  pigeonhole_by = pigeonhole n m (λ i. pick i (cases_lt i n)) (λ i l. (pick-is i (cases_lt i n) l).0)
      (λ i j l k e. one i j (pick j (cases_lt j n)) l k (subst (λ y. R i y) e (pick-is i (cases_lt i n) l).1) (pick-is j (cases_lt j n) k).1)

-- ---- at most k + 1 regions

module _ (n : ℕ) (low : 2 ≤ n) (high : n ≤ 5) (p : List ℕ) where
  cells : List ℕ
  cells = 0 ∷ (tour n low high).rest

  Mark : ℕ → ℕ → Type 0
  Mark l m = (i : ℕ) × (i < length cells) × Joins n p l (at cells i)
      × (((i ≡ 0) × (m ≡ 0)) ⊎ ((h : ℕ) × (i ≡ suc h) × (k : ℕ) × (m ≡ suc k) × (k < length p) × (at p k ≡ at cells h)))

  square : 0 < n * n
  square = by_side (λ n. 0 < n * n) (omega arith) (omega arith) (omega arith) (omega arith) n low high

  inside : (i l : ℕ) → Decided ((i < length cells) × Joins n p l (at cells i))
  inside i l = elim (cases_lt i (length cells)) [
    | inl k ↦ elim (joins_decided n p l (at cells i)) [ inl r ↦ inl (k, r) | inr none ↦ inr (λ h. none h.1) ]
    | inr k ↦ inr (λ h. let w : i < length cells = h.0 in omega arith)
  ]

  mark_of : (l : ℕ) → IsFree n p l → (m : ℕ) × (m < suc (length p)) × Mark l m
  unfolding Mark cells
  mark_of l free = elim (least_below (λ i. (i < length cells) × Joins n p l (at cells i)) (λ i. inside i l) (length cells)) [
    | inl h ↦ go h.0 h.2.0 h.2.1 h.3
    | inr none ↦ absurd (let w = at-has cells l ((tour n low high).onto l free.0) in none w.0 w.1 (w.1, subst (λ x. Joins n p l x) (sym w.2) here))
  ]
    where
      go : (i : ℕ) → i < length cells → Joins n p l (at cells i) → ((j : ℕ) → (j < length cells) × Joins n p l (at cells j) → i ≤ j) → (m : ℕ)
          × (m < suc (length p)) × Mark l m
      go zero in' r least = (0, omega arith, (0, in', r, inl (refl, refl)))
      go (suc h) in' r least = before (has p (at cells h)) refl
        where
          step : Adjacent n (at cells h) (at cells (suc h))
          step = path_at n 0 (tour n low high).rest h (tour n low high).walk (omega arith)

          before : (x : Bool) → has p (at cells h) ≡ x → (m : ℕ) × (m < suc (length p)) × Mark l m
          before true e = let k = at-has p (at cells h) e in let w : k.0 < length p = k.1 in
              (suc k.0, omega arith, (suc h, in', r, inr (h, refl, k.0, refl, k.1, k.2)))
          before false e = absurd (
              let h_free : IsFree n p (at cells h) = (path_below n 0 (tour n low high).rest h square (tour n low high).walk (omega arith), e) in
              let onto : Joins n p (at cells h) (at cells (suc h)) = onward step (Joins-free n p free r) here in
              let bad : suc h ≤ h = least h (omega arith, Joins-trans n p r (Joins-sym n p low high h_free onto)) in
              omega arith)

  mark_one : (k l m : ℕ) → IsLeader n p k → IsLeader n p l → Mark k m → Mark l m → k ≡ l
  unfolding Mark cells
  mark_one k l m is_k is_l a b = meet (place a.3 b.3)
    where
      meet : a.0 ≡ b.0 → k ≡ l
      meet e =
          let back : Joins n p (at cells a.0) k = Joins-sym n p low high is_k.0 a.2 in
          let other : Joins n p (at cells a.0) l = subst (λ x. Joins n p (at cells x) l) (sym e) (Joins-sym n p low high is_l.0 b.2) in
          leader_one n low high p (at cells a.0) k l (Joins-free n p is_k.0 a.2) back is_k other is_l

      place : (((a.0 ≡ 0) × (m ≡ 0)) ⊎ ((h : ℕ) × (a.0 ≡ suc h) × (k : ℕ) × (m ≡ suc k) × (k < length p) × (at p k ≡ at cells h)))
          → (((b.0 ≡ 0) × (m ≡ 0)) ⊎ ((h : ℕ) × (b.0 ≡ suc h) × (k : ℕ) × (m ≡ suc k) × (k < length p) × (at p k ≡ at cells h))) → a.0 ≡ b.0
      place (inl x) (inl y) = x.0 ∙ sym y.0
      place (inl x) (inr y) = absurd (let e : m ≡ 0 = x.1 in let f : m ≡ suc y.2 = y.3 in omega arith)
      place (inr x) (inl y) = absurd (let e : m ≡ 0 = y.1 in let f : m ≡ suc x.2 = x.3 in omega arith)
      place (inr x) (inr y) =
          let e : x.2 ≡ y.2 = (let f : m ≡ suc x.2 = x.3 in let g : m ≡ suc y.2 = y.3 in omega arith) in
          let la : x.0 < length cells = (let u : a.0 < length cells = a.1 in let w : a.0 ≡ suc x.0 = x.1 in omega arith) in
          let lb : y.0 < length cells = (let u : b.0 < length cells = b.1 in let w : b.0 ≡ suc y.0 = y.1 in omega arith) in
          x.1 ∙ ap suc (apart_at cells (tour n low high).apart x.0 y.0 la lb (sym x.5 ∙ ap (at p) e ∙ y.5)) ∙ sym y.1

  -- the slot of a cell is at most the number of cells in the list
  pub slot_below : (c j : ℕ) → IsSlot n p c j → j < suc (length p)
  slot_below c j s = pigeonhole_by (suc j) (suc (length p)) (λ i m. (l : ℕ) × IsLeader n p l × IsCount (IsLeader n p) l i × Mark l m) total one
    where
      counted : IsCount (IsLeader n p) (suc s.leader) (suc j)
      counted = inl (s.is_leader, j, refl, s.below)

      total : (i : ℕ) → i < suc j → (m : ℕ) × (m < suc (length p)) × ((l : ℕ) × IsLeader n p l × IsCount (IsLeader n p) l i × Mark l m)
      total i l = let x = count_place (IsLeader n p) (suc s.leader) (suc j) i counted l in let m = mark_of x.0 x.2.0 in (m.0, m.1, (x.0, x.2, x.3, m.2))

      one : (i j' m : ℕ) → i < suc j → j' < suc j → ((l : ℕ) × IsLeader n p l × IsCount (IsLeader n p) l i × Mark l m)
          → ((l : ℕ) × IsLeader n p l × IsCount (IsLeader n p) l j' × Mark l m) → i ≡ j'
      one i j' m l k a b = let e : a.0 ≡ b.0 = mark_one a.0 b.0 m a.1 b.1 a.3 b.3 in
          count_one (IsLeader n p) b.0 i j' (subst (λ x. IsCount (IsLeader n p) x i) e a.2) b.2

  -- leaders and the pattern's cells are different cells of the board
  pub slot_room : (c j : ℕ) → AllByRecursion (λ c. c < n * n) p → IsApart p → IsSlot n p c j → j < n * n - length p
  slot_room c j inside_all apart s = let room : suc j + length p ≤ n * n = pigeonhole_by (suc j + length p) (n * n) Holds total one in omega arith
    where
      Holds : ℕ → ℕ → Type 0
      Holds i y = (IsLeader n p y × IsCount (IsLeader n p) y i) ⊎ ((h : ℕ) × (i ≡ suc j + h) × (h < length p) × (at p h ≡ y))

      counted : IsCount (IsLeader n p) (suc s.leader) (suc j)
      counted = inl (s.is_leader, j, refl, s.below)

      inside_at : (xs : List ℕ) → AllByRecursion (λ c. c < n * n) xs → (h : ℕ) → h < length xs → at xs h < n * n
      inside_at [] all h l = absurd (omega arith)
      inside_at (x ∷ xs) all zero l = all.0
      inside_at (x ∷ xs) all (suc h) l = inside_at xs all.1 h (omega arith)

      total : (i : ℕ) → i < suc j + length p → (y : ℕ) × (y < n * n) × Holds i y
      total i l = elim (cases_lt i (suc j)) [
        | inl k ↦ let x = count_place (IsLeader n p) (suc s.leader) (suc j) i counted k in (x.0, x.2.0.0, inl (x.2, x.3))
        | inr k ↦ (at p (i - suc j), inside_at p inside_all (i - suc j) (omega arith), inr (i - suc j, omega arith, omega arith, refl))
      ]

      one : (i i' y : ℕ) → i < suc j + length p → i' < suc j + length p → Holds i y → Holds i' y → i ≡ i'
      one i i' y l k a b = elim a [
        | inl x ↦ elim b [ inl z ↦ count_one (IsLeader n p) y i i' x.1 z.1 | inr z ↦ absurd (both_ways (has p y) x.0.0.1 (has-at p y z.0 z.2 z.3)) ]
        | inr x ↦ elim b [
          | inl z ↦ absurd (both_ways (has p y) z.0.0.1 (has-at p y x.0 x.2 x.3))
          | inr z ↦ let h : x.0 ≡ z.0 = apart_at p apart x.0 z.0 x.2 z.2 (x.3 ∙ sym z.3) in let e : i ≡ suc j + x.0 = x.1 in
              let f : i' ≡ suc j + z.0 = z.1 in omega arith
        ]
      ]

  -- the slot of a cell is below the width, where the list's cells are different ones of the board
  pub slot_within : (c j : ℕ) → AllByRecursion (λ c. c < n * n) p → IsApart p → IsSlot n p c j → j < width n (length p)
  slot_within c j inside apart s = let a = slot_below c j s in let b = slot_room c j inside apart s in omega arith
