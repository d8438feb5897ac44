-- Patterns transposed.
use Rattle.std.proofs.Common.{◌≡◌, ◌≢◌, ℕ, zero, suc, ◌+◌, ◌-◌, ◌*◌, ◌^◌, ◌<◌, ◌≤◌, ◌⊎◌, Bool, true, false, cond, eqb, List, [], ◌∷◌, ◌++◌, length}
use Rattle.std.proofs.Common.{filter, get_or, inl, inr, refl, sym, ◌∙◌, ap, ap₂, arith, eq-eqb, ne_eqb}
use Rattle.std.specs.Int.{bit_at}
use Rattle.std.specs.List.{range_with_len}
use Rattle.std.proofs.lemmas.Bool.{cases_eq, cases_Bool, cond-true, cond-false, true≢false}
use Rattle.std.proofs.lemmas.List.{append-nil}
use Rattle.std.proofs.lemmas.Nat.Bits.{bit_at-lt, bit_at-zero}
use Rattle.puz_board.specs.Boards.{cell_of}
use Rattle.puz_board.specs.Masks.{has_bit, numbers_below, numbers_of}
use Rattle.puz_board.specs.Transposing.{transposed_cell, transposed_tiles}
use Rattle.puz_board.proofs.BoardLemmas.{pigeonhole}
use Rattle.puz_board.proofs.CellLemmas.{few_cells}
use Rattle.puz_board.proofs.TransposeLemmas.{cell_below, cell_twice, cell_zero, transposed_tiles-are, transposed_tiles-inside}
use Rattle.puz_board.proofs.HasLemmas.{has-filter, has-filter_not, has-range, has_cases, all_from_has, has_from_all}
use Rattle.pat_place.specs.Patterns.{IsAscending, IsPattern, ShownPattern, has}
use Rattle.pat_place.specs.Placements.{IsApart}
use Rattle.pat_place.proofs.ListLemmas.{apart_at, apart_from_ascending, ascending-filter, ascending-range, filter-append, has-at, range-append}
use Rattle.pat_place.proofs.BoardOf.{no_blank}

-- ---- as many tiles

-- the place of a number that stands in a list
place_in : (xs : List ℕ) (x : ℕ) → has xs x ≡ true → (cell_of x xs < length xs) × (get_or xs (cell_of x xs) 0 ≡ x)
place_in [] x is = absurd (true≢false (sym is))
place_in (y ∷ xs) x is = elim (cases_eq y x) [
  | inl e ↦
      let here : cell_of x (y ∷ xs) ≡ 0 = cond-true (eqb y x) 0 (suc (cell_of x xs)) (eq-eqb y x e) in
      (omega arith, ap (λ i. get_or (y ∷ xs) i 0) here ∙ e)
  | inr ne ↦
      let later : cell_of x (y ∷ xs) ≡ suc (cell_of x xs) = cond-false (eqb y x) 0 (suc (cell_of x xs)) (ne_eqb y x ne) in
      let rest = place_in xs x (elim (has_cases x y xs is) [ inl e ↦ absurd (ne e) | inr k ↦ k ]) in
      let low = rest.0 in
      (omega arith, ap (λ i. get_or (y ∷ xs) i 0) later ∙ rest.1)
]

-- a list of different numbers, each of which leads to another number of a second list, is no longer than that
no_longer : (f : ℕ → ℕ) (xs ys : List ℕ) → IsApart xs → ((x : ℕ) → has xs x ≡ true → has ys (f x) ≡ true)
    → ((x z : ℕ) → has xs x ≡ true → has xs z ≡ true → f x ≡ f z → x ≡ z) → length xs ≤ length ys
no_longer f xs ys apart into one = pigeonhole (length xs) (length ys) (λ i. cell_of (f (get_or xs i 0)) ys)
    (λ i l. (place_in ys (f (get_or xs i 0)) (into (get_or xs i 0) (has-at xs (get_or xs i 0) i l refl))).0)
    (λ i j l k e.
    let p = place_in ys (f (get_or xs i 0)) (into (get_or xs i 0) (has-at xs (get_or xs i 0) i l refl)) in
    let q = place_in ys (f (get_or xs j 0)) (into (get_or xs j 0) (has-at xs (get_or xs j 0) j k refl)) in
    let same : f (get_or xs i 0) ≡ f (get_or xs j 0) = sym p.1 ∙ ap (λ m. get_or ys m 0) e ∙ q.1 in
    apart_at xs apart i j l k (one (get_or xs i 0) (get_or xs j 0) (has-at xs (get_or xs i 0) i l refl) (has-at xs (get_or xs j 0) j k refl) same))

module _ (n : ℕ) (low : 2 ≤ n) (high : n ≤ 5) (tiles : List ℕ) (up : IsAscending tiles) (inside : (t : ℕ) → has tiles t ≡ true → t < n * n) where
  -- the tiles that these become where rows and columns are exchanged
  abbrev pub others : List ℕ
  others = transposed_tiles n tiles

  others_up : IsAscending others
  others_up = ascending-filter (λ t. has tiles (transposed_cell n t)) (range_with_len 0 (n * n)) (ascending-range 0 (n * n))

  one_of : (P : ℕ → Type 0) → ((t : ℕ) → P t → t < n * n) → (x z : ℕ) → P x → P z → transposed_cell n x ≡ transposed_cell n z → x ≡ z
  one_of P below x z p q e = sym (cell_twice n low high x (below x p)) ∙ ap (transposed_cell n) e ∙ cell_twice n low high z (below z q)

  -- tiles with rows and columns exchanged are as many as before
  pub length-transposed : length others ≡ length tiles
  length-transposed =
      let to : length others ≤ length tiles = no_longer (transposed_cell n) others tiles (apart_from_ascending others others_up)
      (λ x is. sym (transposed_tiles-are n tiles x (transposed_tiles-inside n tiles x is)) ∙ is)
      (one_of (λ t. has others t ≡ true) (transposed_tiles-inside n tiles)) in
      let back : length tiles ≤ length others = no_longer (transposed_cell n) tiles others (apart_from_ascending tiles up)
      (λ x is. transposed_tiles-are n tiles (transposed_cell n x) (cell_below n low high x (inside x is))
      ∙ ap (has tiles) (cell_twice n low high x (inside x is)) ∙ is)
      (one_of (λ t. has tiles t ≡ true) inside) in
      omega arith

-- a pattern with rows and columns exchanged is a pattern
pub IsPattern-transposed : (p : ShownPattern) → IsPattern p → IsPattern (record { side = p.side; tiles = transposed_tiles p.side p.tiles })
IsPattern-transposed p pat =
    let n = p.side in
    let size = length-transposed n pat.low pat.high p.tiles pat.ascending (λ t is. (has_from_all (λ t. (0 < t) × (t < n * n)) p.tiles t pat.tiles is).1) in
    let some = pat.some in
    let most = pat.most in
    record {
      low = pat.low;
      high = pat.high;
      ascending = ascending-filter (λ t. has p.tiles (transposed_cell n t)) (range_with_len 0 (n * n)) (ascending-range 0 (n * n));
      tiles = all_from_has (λ t. (0 < t) × (t < n * n)) (transposed_tiles n p.tiles) (λ t is. (positive t is, transposed_tiles-inside n p.tiles t is));
      some = omega arith;
      most = omega arith;
    }
  where
    positive : (t : ℕ) → has (transposed_tiles p.side p.tiles) t ≡ true → 0 < t
    positive t is = elim (cases_eq t 0) [
      | inr ne ↦ omega arith
      | inl zero_is ↦
          let n = p.side in
          let l = transposed_tiles-inside n p.tiles t is in
          let home : has p.tiles (transposed_cell n t) ≡ true = sym (transposed_tiles-are n p.tiles t l) ∙ is in
          let blank : has p.tiles 0 ≡ true = ap (has p.tiles) (sym (ap (transposed_cell n) zero_is ∙ cell_zero n pat.low pat.high)) ∙ home in
          absurd (true≢false (sym blank ∙ no_blank n p.tiles pat.tiles))
    ]

-- ---- the mask

-- tests that agree choose alike
filter_same : (p q : ℕ → Bool) (a m : ℕ) → ((x : ℕ) → a ≤ x → x < a + m → p x ≡ q x) → filter p (range_with_len a m) ≡ filter q (range_with_len a m)
filter_same p q a zero same = refl
filter_same p q a (suc m) same =
    let first = same a (omega arith) (omega arith) in
    let rest = filter_same p q (a + 1) m (λ x l k. same x (omega arith) (omega arith)) in
    ap₂ (λ t xs. cond t (a ∷ xs) xs) first rest

none_of : (p : ℕ → Bool) (a m : ℕ) → ((x : ℕ) → a ≤ x → x < a + m → p x ≡ false) → filter p (range_with_len a m) ≡ []
none_of p a zero none = refl
none_of p a (suc m) none = cond-false (p a) (a ∷ filter p (range_with_len (a + 1) m)) (filter p (range_with_len (a + 1) m))
    (none a (omega arith) (omega arith)) ∙ none_of p (a + 1) m (λ x l k. none x (omega arith) (omega arith))

-- the mask of the cells whose transposed cells are in another mask
pub record IsTurned (n from count mask : ℕ) : Type 0 where
  pub few : mask < 2 ^ 32
  pub below : (x : ℕ) → x < count → bit_at mask x ≡ bit_at from (transposed_cell n x)
  pub above : (x : ℕ) → count ≤ x → x < 32 → bit_at mask x ≡ 0

chosen : (p : ℕ → Bool) (c : ℕ) → c < 32 → has (filter p (range_with_len 0 32)) c ≡ p c
chosen p c l = go (cases_Bool (p c))
  where
    go : (p c ≡ true) ⊎ (p c ≡ false) → has (filter p (range_with_len 0 32)) c ≡ p c
    go (inl holds) = has-filter p c (range_with_len 0 32) holds ∙ has-range 0 32 c (omega arith) (omega arith) ∙ sym holds
    go (inr fails) = has-filter_not p c (range_with_len 0 32) fails ∙ sym fails

-- once all cells are seen, the mask has the transposed tiles of the other one
pub turned_all : (n from mask : ℕ) → 2 ≤ n → n ≤ 5 → IsTurned n from (n * n) mask → numbers_of mask ≡ transposed_tiles n (numbers_of from)
unfolding numbers_below
turned_all n from mask low high turned =
    let few = few_cells n low high in
    let rest : ℕ = 32 - n * n in
    let all : 32 ≡ n * n + rest = omega arith in
    ap (λ m. filter (has_bit mask) (range_with_len 0 m)) all ∙
    ap (filter (has_bit mask)) (range-append 0 (n * n) rest) ∙
    filter-append (has_bit mask) (range_with_len 0 (n * n)) (range_with_len (0 + n * n) rest) ∙
    ap (λ xs. filter (has_bit mask) (range_with_len 0 (n * n)) ++ xs)
    (none_of (has_bit mask) (0 + n * n) rest (λ x l k. ne_eqb (bit_at mask x) 1 (let z = turned.above x (omega arith) (omega arith) in λ e. omega arith))) ∙
    append-nil (filter (has_bit mask) (range_with_len 0 (n * n))) ∙
    filter_same (has_bit mask) (λ t. has (filter (has_bit from) (range_with_len 0 32)) (transposed_cell n t)) 0 (n * n)
    (λ x l k. let c : ℕ = transposed_cell n x in let below = cell_below n low high x (omega arith) in
    ap (λ b. eqb b 1) (turned.below x (omega arith)) ∙ sym (chosen (has_bit from) c (omega arith)))

-- before a cell is seen, the mask is empty
pub turned_none : (n from : ℕ) → IsTurned n from 0 0
turned_none n from = record { few = omega arith; below = λ x l. omega arith; above = λ x l k. bit_at-zero x }

-- one tile more
pub turned_in : (n from i mask more : ℕ) → IsTurned n from i mask → i < 32 → more < 2 ^ 32 → bit_at from (transposed_cell n i) ≡ 1 → bit_at more i ≡ 1
    → ((x : ℕ) → x ≢ i → bit_at more x ≡ bit_at mask x) → IsTurned n from (i + 1) more
turned_in n from i mask more turned low few set here others = record {
  few = few;
  below = λ x l. elim (cases_eq x i) [
    | inl e ↦ ap (bit_at more) e ∙ here ∙ sym (ap (λ y. bit_at from (transposed_cell n y)) e ∙ set)
    | inr ne ↦ others x ne ∙ turned.below x (omega arith)
  ];
  above = λ x l k. others x (λ e. omega arith) ∙ turned.above x (omega arith) k;
}

-- where the transposed cell of the next one isn't in the other mask, the mask stays as it is
pub turned_out : (n from i mask : ℕ) → IsTurned n from i mask → i < 32 → bit_at from (transposed_cell n i) ≢ 1 → IsTurned n from (i + 1) mask
turned_out n from i mask turned low unset = record {
  few = turned.few;
  below = λ x l. elim (cases_eq x i) [
    | inl e ↦ let bit = bit_at-lt from (transposed_cell n i) in let zero_there : bit_at from (transposed_cell n i) ≡ 0 = omega arith in
        turned.above x (omega arith) (omega arith) ∙ sym (ap (λ y. bit_at from (transposed_cell n y)) e ∙ zero_there)
    | inr ne ↦ turned.below x (omega arith)
  ];
  above = λ x l k. turned.above x (omega arith) k;
}
