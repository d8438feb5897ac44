-- A rank made tile by tile, from the cells that were found for the numbers of a mask.
use Rattle.std.proofs.Common.{◌≡◌, ◌≢◌, ℕ, zero, suc, ◌+◌, ◌-◌, ◌*◌, ◌^◌, ◌<◌, ◌≤◌, ◌⊎◌, ◌↔◌, true, List, [], ◌∷◌, ◌++◌, length, take, drop, get_or}
use Rattle.std.proofs.Common.{bit_and, Some, inl, inr, sym, ◌∙◌, ap, subst, arith, lit<}
use Rattle.std.specs.Int.{bit_at}
use Rattle.std.specs.List.{AllByRecursion, range_with_len}
use Rattle.std.specs.Prelude.{slice_get}
use Rattle.std.proofs.lemmas.Bool.{cases_eq, cases_lt, true≢false}
use Rattle.std.proofs.lemmas.List.{get_or-map, length-drop, length-map, take_all, take_more}
use Rattle.std.proofs.lemmas.Nat.Bits.{bit_at_ones, bit_at_ones_above}
use Rattle.std.proofs.Math.Nat.{pow-le-pow_right}
use Rattle.puz_board.specs.Masks.{IsMaskOf, numbers_of, ones_below}
use Rattle.puz_board.proofs.BitLemmas.{but_in, in_but}
use Rattle.puz_board.proofs.HasLemmas.{has-here, has-later, has_cases, has_from_all}
use Rattle.pat_place.specs.Patterns.{has}
use Rattle.pat_place.specs.Placements.{IsApart, cells_found}
use Rattle.pat_place.specs.Ranks.{IsRank, lists_of}
use Rattle.pat_place.proofs.ListLemmas.{has-at}
use Rattle.pat_place.proofs.MaskLemmas.{numbers_below-zero}
use Rattle.pat_place.proofs.RankLemmas.{IsRank-from}
use Rattle.pat_place.proofs.RankSteps.{IsRanking, IsRanking-all, IsRanking-fits, IsRanking-more, IsRanking-start}

-- ---- lists

-- what is left of a list begins with the next element
pub drop_first : (xs : List ℕ) (i x : ℕ) (ys : List ℕ) → drop i xs ≡ x ∷ ys → (i < length xs) × (get_or xs i 0 ≡ x) × (drop (i + 1) xs ≡ ys)
drop_first [] zero x ys e = cc
drop_first [] (suc i) x ys e = cc
drop_first (z ∷ xs) zero x ys e = (omega arith, cc, cc)
drop_first (z ∷ xs) (suc i) x ys e = let later = drop_first xs i x ys e in
    (let l = later.0 in omega arith, later.1, (let k : suc i + 1 ≡ suc (i + 1) = omega arith in ap (λ j. drop j (z ∷ xs)) k ∙ later.2))

drop_none : (xs : List ℕ) (i : ℕ) → drop i xs ≡ [] → length xs ≤ i
drop_none xs i e = let n = length-drop i xs in let z : length (drop i xs) ≡ 0 = ap length e in omega arith

-- one element more is a list's, or was before
in_more : (xs : List ℕ) (c x : ℕ) → has (xs ++ c ∷ []) x ≡ true → (has xs x ≡ true) ⊎ (c ≡ x)
in_more [] c x h = elim (has_cases x c [] h) [ inl e ↦ inr e | inr none ↦ absurd (true≢false (sym none)) ]
in_more (d ∷ xs) c x h = elim (has_cases x d (xs ++ c ∷ []) h) [
  | inl e ↦ inl (has-here x d xs e)
  | inr later ↦ elim (in_more xs c x later) [ inl before ↦ inl (has-later x d xs before) | inr e ↦ inr e ]
]

more_new : (xs : List ℕ) (c x : ℕ) → c ≡ x → has (xs ++ c ∷ []) x ≡ true
more_new [] c x e = has-here x c [] e
more_new (d ∷ xs) c x e = has-later x d (xs ++ c ∷ []) (more_new xs c x e)

more_old : (xs : List ℕ) (c x : ℕ) → has xs x ≡ true → has (xs ++ c ∷ []) x ≡ true
more_old [] c x h = absurd (true≢false (sym h))
more_old (d ∷ xs) c x h = elim (has_cases x d xs h) [
  | inl e ↦ has-here x d (xs ++ c ∷ []) e
  | inr later ↦ has-later x d (xs ++ c ∷ []) (more_old xs c x later)
]

-- ---- tile by tile

-- what the rank of the first tiles says of that of all, where the mask has the others and the cells of the first are taken
pub record IsStanding (tiles found : List ℕ) (count rest free room rank : ℕ) : Type 0 where
  pub i : ℕ
  pub upto : i ≤ length tiles
  pub left : drop i tiles ≡ numbers_of rest
  pub ranking : IsRanking (cells_found tiles found) count i free room rank
  pub taken : (x : ℕ) → x < count → (bit_at free x ≡ 0) ↔ (has (take i (cells_found tiles found)) x ≡ true)

-- before a tile is ranked, the whole mask is left, all cells are free, and the rank is 0
pub IsStanding-start : (tiles found : List ℕ) (count mask : ℕ) → count ≤ 25 → AllByRecursion (λ c. c < count) (cells_found tiles found)
    → numbers_of mask ≡ tiles
    → IsStanding tiles found count mask (2 ^ count - 1) count 0
IsStanding-start tiles found count mask few inside is = record {
  i = 0;
  upto = omega arith;
  left = sym is;
  ranking = IsRanking-start (cells_found tiles found) count few inside;
  taken = λ x l. (λ zero. absurd (let one = bit_at_ones count x l in omega arith), λ h. absurd (true≢false (sym h)));
}

module _ (tiles found : List ℕ) (apart : IsApart (cells_found tiles found)) (few : length tiles ≤ 8) (count rest free room rank : ℕ)
    (h : IsStanding tiles found count rest free room rank) (tile next : ℕ) (first : numbers_of rest ≡ tile ∷ numbers_of next) where
  abbrev cells : List ℕ
  cells = cells_found tiles found

  split : (h.i < length tiles) × (get_or tiles h.i 0 ≡ tile) × (drop (h.i + 1) tiles ≡ numbers_of next)
  split = drop_first tiles h.i tile (numbers_of next) (h.left ∙ first)

  as_many : length cells ≡ length tiles
  as_many = length-map tiles (λ t. get_or found t 0)

  here : h.i < length cells
  here = let l = split.0 in let e = as_many in omega arith

  -- the next cell is that of the tile
  pub standing_cell : get_or cells h.i 0 ≡ get_or found tile 0
  standing_cell = get_or-map (λ t. get_or found t 0) tiles h.i 0 0 split.0 ∙ ap (λ t. get_or found t 0) split.1

  -- the cell that was found for the next tile is below 32
  pub standing_below : get_or found tile 0 < 32
  standing_below = subst (λ c. c < 32) standing_cell (h.ranking.inside h.i here)

  -- the next tile is below m where all the tiles are
  pub standing_inside : (m : ℕ) → AllByRecursion (λ t. (0 < t) × (t < m)) tiles → tile < m
  standing_inside m all = (has_from_all (λ t. (0 < t) × (t < m)) tiles tile all (has-at tiles tile h.i split.0 split.1)).1

  -- while a tile isn't ranked, there is room, and the rank with its cell is below 25^8
  pub standing_fits : (0 < room) × (rank * room + ones_below free (get_or found tile 0) < 25 ^ 8)
  standing_fits =
      subst (λ c. (0 < room) × (rank * room + ones_below free c < 25 ^ 8)) standing_cell
      (IsRanking-fits cells apart count h.i free room rank h.ranking here (let e = as_many in omega arith))

  -- the next tile's cell is ranked among the free ones and taken, and the tile is left no longer
  pub standing_more : (cell now : ℕ) → cell ≡ get_or found tile 0 → now < 2 ^ 32 → bit_at now cell ≡ 0
      → ((x : ℕ) → x < 32 → x ≢ cell → bit_at now x ≡ bit_at free x)
      → IsStanding tiles found count next now (room - 1) (rank * room + ones_below free cell)
  standing_more cell now is bits clear same = record {
    i = h.i + 1;
    upto = let l = split.0 in omega arith;
    left = split.2;
    ranking = subst (λ c. IsRanking cells count (h.i + 1) now (room - 1) (rank * room + ones_below free c)) at
        (IsRanking-more cells apart count h.i free room rank h.ranking here now bits (ap (bit_at now) at ∙ clear)
        (λ x l other. same x l (λ e. other (e ∙ sym at))));
    taken = λ x l. (
      λ zero. subst (λ xs. has xs x ≡ true) (sym more) (elim (cases_eq x cell) [
        | inl e ↦ more_new (take h.i cells) (get_or cells h.i 0) x (at ∙ sym e)
        | inr ne ↦ more_old (take h.i cells) (get_or cells h.i 0) x ((h.taken x l).0 (sym (same x (small x l) ne) ∙ zero))
      ]),
      λ in_list. elim (in_more (take h.i cells) (get_or cells h.i 0) x (subst (λ xs. has xs x ≡ true) more in_list)) [
        | inr e ↦ ap (bit_at now) (sym e ∙ at) ∙ clear
        | inl before ↦ elim (cases_eq x cell) [
          | inl e ↦ ap (bit_at now) e ∙ clear
          | inr ne ↦ same x (small x l) ne ∙ (h.taken x l).1 before
        ]
      ],
    );
  }
    where
      at : get_or cells h.i 0 ≡ cell
      at = standing_cell ∙ sym is

      more : take (h.i + 1) cells ≡ take h.i cells ++ get_or cells h.i 0 ∷ []
      more = take_more cells h.i 0 here

      small : (x : ℕ) → x < count → x < 32
      small x l = let c = h.ranking.few in omega arith

-- ---- all tiles

module _ (n : ℕ) (tiles found : List ℕ) (count free room rank : ℕ) (is : count ≡ n * n) (inside : AllByRecursion (λ c. c < count) (cells_found tiles found))
    (h : IsStanding tiles found count 0 free room rank) where
  all : length (cells_found tiles found) ≤ h.i
  all =
      let none = drop_none tiles h.i (h.left ∙ numbers_below-zero 32) in
      let e = length-map tiles (λ t. get_or found t 0) in
      omega arith

  no_more : h.i ≤ length (cells_found tiles found)
  no_more = let u = h.upto in let e = length-map tiles (λ t. get_or found t 0) in omega arith

  -- once no tile is left, the rank is that of the cells that were found
  pub standing_rank : IsRank n (cells_found tiles found) rank
  standing_rank = IsRank-from n (cells_found tiles found) rank (
      subst (λ k. slice_get (lists_of (length (cells_found tiles found)) (range_with_len 0 k)) rank ≡ Some (cells_found tiles found)) is (
      IsRanking-all (cells_found tiles found) count h.i free room rank h.ranking all no_more))

  -- once no tile is left, the cells that are free no longer are those that were found
  pub standing_occupied : IsMaskOf (bit_and (2 ^ count - 1) (2 ^ 32 - 1 - free)) (λ c. has (cells_found tiles found) c ≡ true)
  standing_occupied x = (
    λ set.
        let parts = but_in (2 ^ count - 1) free x low h.ranking.bits set in
        let l : x < count = elim (cases_lt x count) [ inl l ↦ l | inr l ↦ absurd (let z = bit_at_ones_above count x l in let one = parts.0 in omega arith) ] in
        subst (λ xs. has xs x ≡ true) (take_all h.i (cells_found tiles found) all) ((h.taken x l).0 parts.1),
    λ in_list.
        let l : x < count = has_from_all (λ c. c < count) (cells_found tiles found) x inside in_list in
        in_but (2 ^ count - 1) free x low h.ranking.bits (bit_at_ones count x l)
        ((h.taken x l).1 (subst (λ xs. has xs x ≡ true) (sym (take_all h.i (cells_found tiles found) all)) in_list)),
  )
    where
      low : 2 ^ count - 1 < 2 ^ 32
      low =
          let few = h.ranking.few in
          let up : 2 ^ count ≤ 2 ^ 31 = pow-le-pow_right (lit< tt) (let l : count ≤ 31 = omega arith in l) in
          omega arith
