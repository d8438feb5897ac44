-- The next one of the lists of different cells, in lexicographic order.
use Rattle.std.proofs.Common.{◌≡◌, ◌≢◌, ℕ, zero, suc, ◌+◌, ◌-◌, ◌*◌, ◌^◌, ◌<◌, ◌≤◌, Bool, true, false, eqb, not, List, [], ◌∷◌, ◌++◌, length, take}
use Rattle.std.proofs.Common.{drop, get_or, Some, inl, inr, refl, sym, ◌∙◌, ap, ap₂, subst, arith, zero-mul, mul-zero, mod-eq_of_lt, append_assoc}
use Rattle.std.proofs.Common.{set, ◌↔◌, drop-cons}
use Rattle.std.specs.Prelude.{slice_get, count_ones, ◌||◌}
use Rattle.std.specs.Int.{bit_at}
use Rattle.std.specs.List.{AllByRecursion, range_with_len}
use Rattle.std.proofs.lemmas.Bool.{cases_eq, cases_lt, both_ways, or_parts, or_from, ne_eqb, eqb-false, true≢false}
use Rattle.std.proofs.lemmas.List.{take_all, drop_all, take-append-drop, length-take-le, length-drop, get_or-take, append-nil, take_more_set}
use Rattle.std.proofs.lemmas.List.{length-set, drop-set-lt, take-take}
use Rattle.std.proofs.lemmas.Nat.Bits.{bit_at-zero}
use Rattle.std.proofs.lemmas.Slice.{take-put_mid, drop-put_mid}
use borrow.Rule.Slice.PartMut.{put_mid}
use Rattle.puz_board.specs.Masks.{IsMaskOf, numbers_of, ones_below}
use Rattle.puz_board.proofs.CellLemmas.{few_cells}
use Rattle.puz_board.proofs.BitLemmas.{in_below, in_or_out}
use Rattle.puz_board.proofs.OnesLemmas.{ones_below-suc, ones_below-zero}
use Rattle.puz_board.proofs.HasLemmas.{has_cases, has-here, has-get, has-range, in_range}
use Rattle.pat_place.specs.Patterns.{has, IsAscending, IsPattern}
use Rattle.pat_place.specs.Placements.{IsApart, IsFree, IsPlacement, ShownPlacement}
use Rattle.pat_place.specs.Ranks.{IsRank, without, lists_of, falling_factorial, placements}
use Rattle.pat_place.proofs.ListLemmas.{has-at, all_at, apart_from_ascending, ascending-filter, ascending-range}
use Rattle.pat_place.proofs.MaskLemmas.{get-numbers_below, ascending-numbers_below, numbers_below-clear, has-numbers_below, in_numbers_below}
use Rattle.pat_place.proofs.MaskLemmas.{length-numbers_below, numbers_below-zero}
use Rattle.pat_place.proofs.RankLemmas.{rank_step, length-without, length_lists, still_in, has-without, has-without_same, has_from-without, above-has}
use Rattle.pat_place.proofs.RankLemmas.{in_all, placement_of_rank, inside_from, IsRank-from, IsRank-one, length-placements}
use Rattle.pat_place.proofs.PlacementLemmas.{placed}
use Rattle.pat_place.proofs.RankSteps.{count-clear}

-- ---- the first one of the lists, the last one, and the next one

-- it is the first of the lists of k different ones of these cells
abbrev pub IsFirst : ℕ → List ℕ → List ℕ → Type 0
IsFirst k cs p = slice_get (lists_of k cs) 0 ≡ Some p

pub record IsLast (k : ℕ) (cs p : List ℕ) : Type 0 where
  pub rank : ℕ
  pub is : slice_get (lists_of k cs) rank ≡ Some p
  pub end : suc rank ≡ length (lists_of k cs)

pub record IsNext (k : ℕ) (cs p q : List ℕ) : Type 0 where
  pub rank : ℕ
  pub is : slice_get (lists_of k cs) rank ≡ Some p
  pub then : slice_get (lists_of k cs) (suc rank) ≡ Some q

-- of the lists of no cells, the empty list is the first
pub IsFirst-none : (cs : List ℕ) → IsFirst 0 cs []
IsFirst-none cs = refl

-- of the lists of no cells, the empty list is the last
pub IsLast-none : (cs : List ℕ) → IsLast 0 cs []
IsLast-none cs = record { rank = 0; is = refl; end = refl }

-- ---- by the first cell

module _ (k : ℕ) (cs : List ℕ) (up : IsAscending cs) where
  is_apart : IsApart cs
  is_apart = apart_from_ascending cs up

  block : (c : ℕ) → has cs c ≡ true → length (lists_of k (without c cs)) ≡ falling_factorial (length cs - 1) k
  block c h =
      length_lists k (without c cs) (apart_from_ascending (without c cs) (ascending-filter (λ d. not (eqb d c)) cs up)) ∙
      ap (λ m. falling_factorial m k) (let w = length-without c cs is_apart h in let e : length (without c cs) ≡ length cs - 1 = omega arith in e)

  length_all : length (lists_of (suc k) cs) ≡ length cs * falling_factorial (length cs - 1) k
  length_all = length_lists (suc k) cs is_apart

  -- the least cell, and behind it the first list of k others, make the first list of k + 1 cells
  pub IsFirst-more : (c : ℕ) (q : List ℕ) → slice_get cs 0 ≡ Some c → IsFirst k (without c cs) q → IsFirst (suc k) cs (c ∷ q)
  IsFirst-more c q e first =
      ap (slice_get (lists_of (suc k) cs)) (at_zero (falling_factorial (length cs - 1) k)) ∙ rank_step k cs is_apart 0 c 0 q e first
    where
      at_zero : (size : ℕ) → 0 ≡ 0 * size + 0
      at_zero size = omega arith

  -- behind the last list with the greatest cell in front there is none
  pub IsLast-more : (place c : ℕ) (p : List ℕ) → slice_get cs place ≡ Some c → suc place ≡ length cs → IsLast k (without c cs) p → IsLast (suc k) cs (c ∷ p)
  IsLast-more place c p e greatest last = record {
    rank = place * falling_factorial (length cs - 1) k + last.rank;
    is = rank_step k cs is_apart place c last.rank p e last.is;
    end = ends place (falling_factorial (length cs - 1) k) last.rank (last.end ∙ block c (has-get cs place c e))
        ∙ ap (λ n. n * falling_factorial (length cs - 1) k) greatest ∙ sym length_all;
  }
    where
      ends : (place size r : ℕ) → suc r ≡ size → suc (place * size + r) ≡ suc place * size
      ends place size r e = omega arith

  -- behind the last list with a cell in front comes the first one with the next greater cell
  pub IsNext-here : (place c d : ℕ) (p q : List ℕ) → slice_get cs place ≡ Some c → slice_get cs (suc place) ≡ Some d → IsLast k (without c cs) p
      → IsFirst k (without d cs) q → IsNext (suc k) cs (c ∷ p) (d ∷ q)
  IsNext-here place c d p q e f last first = record {
    rank = place * falling_factorial (length cs - 1) k + last.rank;
    is = rank_step k cs is_apart place c last.rank p e last.is;
    then = ap (slice_get (lists_of (suc k) cs)) (starts place (falling_factorial (length cs - 1) k) last.rank
        (last.end ∙ block c (has-get cs place c e))) ∙ rank_step k cs is_apart (suc place) d 0 q f first;
  }
    where
      starts : (place size r : ℕ) → suc r ≡ size → suc (place * size + r) ≡ suc place * size + 0
      starts place size r e = omega arith

  -- behind the same first cell, the next list of the other cells makes the next list
  pub IsNext-later : (place c : ℕ) (p q : List ℕ) → slice_get cs place ≡ Some c → IsNext k (without c cs) p q → IsNext (suc k) cs (c ∷ p) (c ∷ q)
  IsNext-later place c p q e next = record {
    rank = place * falling_factorial (length cs - 1) k + next.rank;
    is = rank_step k cs is_apart place c next.rank p e next.is;
    then = ap (slice_get (lists_of (suc k) cs)) (behind (place * falling_factorial (length cs - 1) k) next.rank)
        ∙ rank_step k cs is_apart place c (suc next.rank) q e next.then;
  }
    where
      behind : (a r : ℕ) → suc (a + r) ≡ a + suc r
      behind a r = omega arith

-- ---- room

falling_room : (m k : ℕ) → 0 < falling_factorial m k → k ≤ m
falling_room m zero l = omega arith
falling_room zero (suc k) l = absurd (let z : zero * falling_factorial (zero - 1) k ≡ 0 = zero-mul (falling_factorial (zero - 1) k) in omega arith)
falling_room (suc m) (suc k) l = let e : suc m - 1 ≡ m = omega arith in
    let ih = falling_room m k (some (falling_factorial m k) (subst (λ x. 0 < suc m * falling_factorial x k) e l)) in omega arith
  where
    some : (x : ℕ) → 0 < suc m * x → 0 < x
    some zero l = absurd (let z : suc m * 0 ≡ 0 = mul-zero (suc m) in omega arith)
    some (suc x) l = omega arith

IsLast-room : (k : ℕ) (cs p : List ℕ) → IsAscending cs → IsLast k cs p → k ≤ length cs
IsLast-room k cs p up last = falling_room (length cs) k (let e = length_lists k cs (apart_from_ascending cs up) in let f = last.end in omega arith)

-- ---- behind the same first cells

-- what the first cells leave of a list
abbrev pub left_of : List ℕ → List ℕ → List ℕ
left_of [] cs = cs
left_of (x ∷ xs) cs = left_of xs (without x cs)

-- a cell that is among others has a place there
pub get-has : (cs : List ℕ) (c : ℕ) → has cs c ≡ true → (place : ℕ) × (slice_get cs place ≡ Some c)
get-has [] c h = absurd (true≢false (sym h))
get-has (d ∷ cs) c h = elim (has_cases c d cs h) [ inl e ↦ (0, ap Some e) | inr k ↦ let w = get-has cs c k in (suc w.0, w.1) ]

-- behind the same first cells, the next list of those that they leave makes the next list
pub IsNext-behind : (xs cs : List ℕ) (k m : ℕ) (p q : List ℕ) → m ≡ length xs + k → IsAscending cs → IsApart xs → AllByRecursion (λ x. has cs x ≡ true) xs
    → IsNext k (left_of xs cs) p q → IsNext m cs (xs ++ p) (xs ++ q)
IsNext-behind [] cs k m p q e up apart all next = subst (λ n. IsNext n cs p q) (let f : k ≡ m = omega arith in f) next
IsNext-behind (x ∷ xs) cs k zero p q e up apart all next = absurd (omega arith)
IsNext-behind (x ∷ xs) cs k (suc m) p q e up apart all next =
    let place = get-has cs x all.0 in
    IsNext-later m cs up place.0 x (xs ++ p) (xs ++ q) place.1
    (IsNext-behind xs (without x cs) k m p q (omega arith) (ascending-filter (λ d. not (eqb d x)) cs up) apart.1 (still_in x xs cs all.1 apart.0) next)

has-left_of : (xs cs : List ℕ) (c : ℕ) → has (left_of xs cs) c ≡ true → (has cs c ≡ true) × (has xs c ≡ false)
has-left_of [] cs c h = (h, refl)
has-left_of (x ∷ xs) cs c h =
    let rest = has-left_of xs (without x cs) c h in (
      has_from-without x c cs rest.0,
      or_from (eqb x c) (has xs c)
          (ne_eqb x c (λ e. both_ways (has (without x cs) c) (ap (has (without x cs)) (sym e) ∙ has-without_same x cs) rest.0)) rest.1,
    )

in-left_of : (xs cs : List ℕ) (c : ℕ) → has cs c ≡ true → has xs c ≡ false → has (left_of xs cs) c ≡ true
in-left_of [] cs c h out = h
in-left_of (x ∷ xs) cs c h out =
    let parts = or_parts (eqb x c) (has xs c) out in
    in-left_of xs (without x cs) c (has-without x c cs h (eqb-false x c parts.0)) parts.1

ascending-left_of : (xs cs : List ℕ) → IsAscending cs → IsAscending (left_of xs cs)
ascending-left_of [] cs up = up
ascending-left_of (x ∷ xs) cs up = ascending-left_of xs (without x cs) (ascending-filter (λ d. not (eqb d x)) cs up)

-- two truth values, each of which is true where the other is, are equal
pub same_bool : (a b : Bool) → (a ≡ true → b ≡ true) → (b ≡ true → a ≡ true) → a ≡ b
same_bool true b to from = sym (to refl)
same_bool false true to from = from refl
same_bool false false to from = refl

-- ascending lists with the same numbers are equal
same_list : (xs ys : List ℕ) → IsAscending xs → IsAscending ys → ((c : ℕ) → has xs c ≡ has ys c) → xs ≡ ys
same_list [] [] up also same = refl
same_list [] (y ∷ ys) up also same = absurd (true≢false (sym (has-here y y ys refl) ∙ sym (same y)))
same_list (x ∷ xs) [] up also same = absurd (true≢false (sym (has-here x x xs refl) ∙ same x))
same_list (x ∷ xs) (y ∷ ys) up also same = ap₂ (λ z zs. z ∷ zs) first (same_list xs ys up.1 also.1 later)
  where
    first : x ≡ y
    first = elim (has_cases x y ys (sym (same x) ∙ has-here x x xs refl)) [
      | inl e ↦ sym e
      | inr h ↦ elim (has_cases y x xs (same y ∙ has-here y y ys refl)) [
        | inl e ↦ e
        | inr k ↦ absurd (let l = above-has y x ys also.0 h in let m = above-has x y xs up.0 k in omega arith)
      ]
    ]

    later : (c : ℕ) → has xs c ≡ has ys c
    later c = elim (cases_eq x c) [
      | inl e ↦ ap (has xs) (sym e) ∙ (apart_from_ascending (x ∷ xs) up).0 ∙ sym (ap (has ys) (sym e ∙ first) ∙ (apart_from_ascending (y ∷ ys) also).0)
      | inr ne ↦ ap (λ b. b || has xs c) (sym (ne_eqb x c ne)) ∙ same c ∙ ap (λ b. b || has ys c) (ne_eqb y c (λ e. ne (first ∙ e)))
    ]

-- the cells of a mask are those that the first cells leave
numbers_of-left : (count free : ℕ) (xs : List ℕ) → free < 2 ^ 32 → IsMaskOf free (λ c. (c < count) × (has xs c ≡ false))
    → numbers_of free ≡ left_of xs (range_with_len 0 count)
numbers_of-left count free xs fits is = same_list (numbers_of free) (left_of xs (range_with_len 0 count)) (ascending-numbers_below 32 free)
    (ascending-left_of xs (range_with_len 0 count) (ascending-range 0 count))
    (λ c. same_bool (has (numbers_of free) c) (has (left_of xs (range_with_len 0 count)) c)
    (λ h. let w = (is c).0 (in_numbers_below 32 free c h).1 in
    in-left_of xs (range_with_len 0 count) c (has-range 0 count c (omega arith) (let l = w.0 in omega arith)) w.1)
    (λ h. let w = has-left_of xs (range_with_len 0 count) c h in let one = (is c).1 (let l = (in_range 0 count c w.0).1 in omega arith, w.1) in
    has-numbers_below 32 free c (in_below free 32 c fits one) one))

-- ---- masks of cells

ones_below-none : (m a d : ℕ) → ((x : ℕ) → a ≤ x → x < a + d → bit_at m x ≡ 0) → ones_below m (a + d) ≡ ones_below m a
ones_below-none m a zero none = ap (ones_below m) (let e : a + 0 ≡ a = omega arith in e)
ones_below-none m a (suc d) none =
    let ih = ones_below-none m a d (λ x low high. none x low (omega arith)) in
    let e : ones_below m (a + suc d) ≡ ones_below m (a + d) + bit_at m (a + d) = ap (ones_below m) (let e : a + suc d ≡ suc (a + d) = omega arith in
    e) ∙ ones_below-suc m (a + d) in
    let z = none (a + d) (omega arith) (omega arith) in
    omega arith

-- the next number of a mask has the next place
place-next : (m c d : ℕ) → bit_at m c ≡ 1 → c < d → ((x : ℕ) → c < x → x < d → bit_at m x ≡ 0) → ones_below m d ≡ suc (ones_below m c)
place-next m c d one l none =
    let e : ones_below m d ≡ ones_below m (suc c) = ap (ones_below m) (let e : d ≡ suc c + (d - suc c) = omega arith in e)
    ∙ ones_below-none m (suc c) (d - suc c) (λ x low high. none x (omega arith) (omega arith)) in
    let s = ones_below-suc m c in
    omega arith

-- the greatest number of a mask has the last place
place-last : (m c : ℕ) → m < 2 ^ 32 → c < 32 → bit_at m c ≡ 1 → ((x : ℕ) → c < x → x < 32 → bit_at m x ≡ 0) → suc (ones_below m c) ≡ length (numbers_of m)
place-last m c fits l one none =
    let e = place-next m c 32 one l none in
    let whole : ones_below m 32 ≡ count_ones m = ap count_ones (mod-eq_of_lt fits) in
    let all = length-numbers_below 32 m fits in
    omega arith

-- the least number of a mask has the first place
place-first : (m c : ℕ) → ((x : ℕ) → x < c → bit_at m x ≡ 0) → ones_below m c ≡ 0
place-first m c none =
    ap (ones_below m) (let e : c ≡ 0 + c = omega arith in e) ∙ ones_below-none m 0 c (λ x low high. none x (omega arith)) ∙ ones_below-zero m

apart-take : (i : ℕ) (xs : List ℕ) → IsApart xs → IsApart (take i xs)
apart-take zero xs apart = tt
apart-take (suc i) [] apart = tt
apart-take (suc i) (x ∷ xs) apart = (out i xs apart.0, apart-take i xs apart.1)
  where
    out : (i : ℕ) (ys : List ℕ) → has ys x ≡ false → has (take i ys) x ≡ false
    out zero ys h = refl
    out (suc i) [] h = refl
    out (suc i) (y ∷ ys) h = let parts = or_parts (eqb y x) (has ys x) h in or_from (eqb y x) (has (take i ys) x) parts.0 (out i ys parts.1)

all-take : (P : ℕ → Type 0) (i : ℕ) (xs : List ℕ) → AllByRecursion P xs → AllByRecursion P (take i xs)
all-take P zero xs each = tt
all-take P (suc i) [] each = tt
all-take P (suc i) (x ∷ xs) each = (each.0, all-take P i xs each.1)

-- ---- tiles lifted from the end of a placement, each of which is in the greatest cell that the tiles before it leave

pub record IsLifted (n : ℕ) (cells : List ℕ) (i free : ℕ) : Type 0 where
  pub upto : i ≤ length cells
  pub bits : free < 2 ^ 32
  pub free_is : IsMaskOf free (IsFree n (take i cells))
  pub last : IsLast (length cells - i) (numbers_of free) (drop i cells)

-- at the end of the cells no tile is lifted, and the placement's free cells are free
pub IsLifted-start : (n : ℕ) (cells : List ℕ) (i free : ℕ) → i ≡ length cells → free < 2 ^ 32 → IsMaskOf free (IsFree n cells) → IsLifted n cells i free
IsLifted-start n cells i free e fits is = record {
  upto = omega arith;
  bits = fits;
  free_is = subst (λ xs. IsMaskOf free (IsFree n xs)) (sym (take_all i cells (omega arith))) is;
  last =
      let none : 0 ≡ length cells - i = omega arith in
      subst (λ k. IsLast k (numbers_of free) (drop i cells)) none
      (subst (λ xs. IsLast 0 (numbers_of free) xs) (sym (drop_all i cells (omega arith))) (IsLast-none (numbers_of free)));
}

has-take_more : (xs : List ℕ) (i x : ℕ) → i < length xs → (has (take (suc i) xs) x ≡ false) ↔ ((has (take i xs) x ≡ false) × (get_or xs i 0 ≢ x))
has-take_more [] i x l = absurd (omega arith)
has-take_more (y ∷ xs) zero x l = (
  λ h. (refl, eqb-false y x (or_parts (eqb y x) false h).0),
  λ w. or_from (eqb y x) false (ne_eqb y x w.1) refl,
)
has-take_more (y ∷ xs) (suc i) x l =
    let ih = has-take_more xs i x (omega arith) in (
      λ h. let parts = or_parts (eqb y x) (has (take (suc i) xs) x) h in let w = ih.0 parts.1 in (or_from (eqb y x) (has (take i xs) x) parts.0 w.0, w.1),
      λ w. let parts = or_parts (eqb y x) (has (take i xs) x) w.0 in or_from (eqb y x) (has (take (suc i) xs) x) parts.0 (ih.1 (parts.1, w.1)),
    )

not_before : (xs : List ℕ) (i : ℕ) → IsApart xs → i < length xs → has (take i xs) (get_or xs i 0) ≡ false
not_before [] i apart l = absurd (omega arith)
not_before (x ∷ xs) zero apart l = refl
not_before (x ∷ xs) (suc i) apart l = or_from (eqb x (get_or xs i 0)) (has (take i xs) (get_or xs i 0))
    (ne_eqb x (get_or xs i 0) (λ e. both_ways (has xs x) apart.0 (has-at xs x i (omega arith) (sym e)))) (not_before xs i apart.1 (omega arith))

module _ (n : ℕ) (small : n * n ≤ 25) (cells : List ℕ) (inside : AllByRecursion (λ c. c < n * n) cells) (apart : IsApart cells) (i free : ℕ)
    (h : IsLifted n cells (suc i) free)
    (more : ℕ) (bits : more < 2 ^ 32) (here : bit_at more (get_or cells i 0) ≡ 1)
    (others : (x : ℕ) → x ≢ get_or cells i 0 → bit_at more x ≡ bit_at free x) where
  cell : ℕ
  cell = get_or cells i 0

  within : i < length cells
  within = let u = h.upto in omega arith

  cell_in : get_or cells i 0 < n * n
  cell_in = all_at cells i inside within

  more_is : IsMaskOf more (IsFree n (take i cells))
  more_is x = elim (cases_eq x (get_or cells i 0)) [
    | inl e ↦ (
      λ one. (let l = cell_in in omega arith, ap (has (take i cells)) e ∙ not_before cells i apart within),
      λ free. ap (bit_at more) e ∙ here,
    )
    | inr ne ↦ (
      λ one. let w = (h.free_is x).0 (sym (others x ne) ∙ one) in (w.0, ((has-take_more cells i x within).0 w.1).0),
      λ free. others x ne ∙ (h.free_is x).1 (free.0, (has-take_more cells i x within).1 (free.1, λ e. ne (sym e))),
    )
  ]

  cleared : numbers_of free ≡ without (get_or cells i 0) (numbers_of more)
  cleared = numbers_below-clear 32 more free (get_or cells i 0)
      (elim (in_or_out free (get_or cells i 0)) [
        | inl one ↦ absurd
            (((has-take_more cells i (get_or cells i 0) within).0 ((h.free_is (get_or cells i 0)).0 one).1).1 refl)
        | inr z ↦ z
      ])
      (λ x l ne. sym (others x ne))

  place : slice_get (numbers_of more) (ones_below more (get_or cells i 0)) ≡ Some (get_or cells i 0)
  place = get-numbers_below 32 more (get_or cells i 0) here (let l = cell_in in omega arith)

  behind : IsLast (length cells - suc i) (without (get_or cells i 0) (numbers_of more)) (drop (suc i) cells)
  behind = subst (λ cs. IsLast (length cells - suc i) cs (drop (suc i) cells)) cleared h.last

  one_more : drop i cells ≡ get_or cells i 0 ∷ drop (suc i) cells
  one_more = drop-cons cells i 0 within

  -- its tile has no greater cell to go to
  pub IsLifted-more : ((x : ℕ) → get_or cells i 0 < x → bit_at free x ≡ 0) → IsLifted n cells i more
  IsLifted-more none = record {
    upto = (let l = within in omega arith);
    bits = bits;
    free_is = more_is;
    last =
        let k : suc (length cells - suc i) ≡ length cells - i = (let l = within in omega arith) in
        subst (λ k. IsLast k (numbers_of more) (drop i cells)) k (
        subst (λ xs. IsLast (suc (length cells - suc i)) (numbers_of more) xs) (sym one_more) (
        IsLast-more (length cells - suc i) (numbers_of more) (ascending-numbers_below 32 more) (ones_below more (get_or cells i 0))
        (get_or cells i 0) (drop (suc i) cells) place
        (place-last more (get_or cells i 0) bits (let l = cell_in in omega arith) here (λ x l k. others x (λ e. omega arith) ∙ none x l)) behind));
  }

  -- or it goes to the next greater one, and the tiles behind it to the least cells that are left
  module _ (d : ℕ) (greater : get_or cells i 0 < d) (one : bit_at free d ≡ 1) (none : (x : ℕ) → get_or cells i 0 < x → x < d → bit_at free x ≡ 0)
      (rest : ℕ) (taken : bit_at rest d ≡ 0) (same : (x : ℕ) → x < 32 → x ≢ d → bit_at rest x ≡ bit_at more x) where
    one_of_more : bit_at more d ≡ 1
    one_of_more = others d (λ e. omega arith) ∙ one

    rest_is : numbers_of rest ≡ without d (numbers_of more)
    rest_is = numbers_below-clear 32 more rest d taken same

    -- there is room for these
    pub room : rest < 2 ^ 32 → length cells - suc i ≤ count_ones rest
    room fits =
        let below : d < 32 = in_below free 32 d h.bits one in
        let k = IsLast-room (length cells - suc i) (numbers_of free) (drop (suc i) cells) (ascending-numbers_below 32 free) h.last in
        let a = ap length cleared in
        let apart_more = apart_from_ascending (numbers_of more) (ascending-numbers_below 32 more) in
        let b = length-without (get_or cells i 0) (numbers_of more) apart_more
        (has-get (numbers_of more) (ones_below more (get_or cells i 0)) (get_or cells i 0) place) in
        let c = ap length rest_is in
        let e = length-without d (numbers_of more) apart_more (has-numbers_below 32 more d below one_of_more) in
        let f = length-numbers_below 32 rest fits in
        omega arith

    -- a tile gone to the next greater free cell, with the first list of the rest behind it, is the next list
    pub IsNext-lifted : (q : List ℕ) → IsFirst (length cells - suc i) (numbers_of rest) q
        → IsNext (length cells) (range_with_len 0 (n * n)) cells (take i cells ++ d ∷ q)
    IsNext-lifted q first =
        let below : d < 32 = in_below free 32 d h.bits one in
        let k : length cells ≡ length (take i cells) + suc (length cells - suc i) =
        (let e = length-take-le i cells (let l = within in omega arith) in let l = within in omega arith) in
        let free_cells = numbers_of-left (n * n) more (take i cells) bits more_is in
        subst (λ xs. IsNext (length cells) (range_with_len 0 (n * n)) xs (take i cells ++ d ∷ q))
        (ap (λ xs. take i cells ++ xs) (sym one_more) ∙ take-append-drop i cells) (
        IsNext-behind (take i cells) (range_with_len 0 (n * n)) (suc (length cells - suc i)) (length cells) (get_or cells i 0 ∷ drop (suc i) cells) (d ∷ q) k
        (ascending-range 0 (n * n)) (apart-take i cells apart) (in_all (n * n) (take i cells) (all-take (λ c. c < n * n) i cells inside)) (
        subst (λ cs. IsNext (suc (length cells - suc i)) cs (get_or cells i 0 ∷ drop (suc i) cells) (d ∷ q)) free_cells (
        IsNext-here (length cells - suc i) (numbers_of more) (ascending-numbers_below 32 more) (ones_below more (get_or cells i 0))
        (get_or cells i 0) d (drop (suc i) cells) q place
        (ap (slice_get (numbers_of more)) (sym (place-next more (get_or cells i 0) d here greater
        (λ x l k. others x (λ e. omega arith) ∙ none x l k))) ∙ get-numbers_below 32 more d one_of_more below)
        behind (subst (λ cs. IsFirst (length cells - suc i) cs q) rest_is first))))

-- ---- the last tile that is not lifted, by masks: its cell is lifted too, or it goes on

-- the cell of the last tile that isn't lifted is below 25
pub lifted-cell : (p : ShownPlacement) → IsPattern p.pattern → IsPlacement p → (index free : ℕ) → IsLifted p.pattern.side p.cells index free
    → 0 < index → (cell : ℕ) → cell ≡ get_or p.cells (index - 1) 0 → cell < 25
lifted-cell p pat place index free h some cell is_cell =
    let l = all_at p.cells (index - 1) place.inside (let u = h.upto in omega arith) in
    let few = few_cells p.pattern.side pat.low pat.high in
    omega arith

module _ (p : ShownPlacement) (pat : IsPattern p.pattern) (place : IsPlacement p) (index free : ℕ) (h : IsLifted p.pattern.side p.cells index free)
    (some : 0 < index)
    (cell more greater : ℕ) (is_cell : cell ≡ get_or p.cells (index - 1) 0) (bits : more < 2 ^ 32) (here : bit_at more cell ≡ 1)
    (others : (x : ℕ) → x ≢ cell → bit_at more x ≡ bit_at free x)
    (above : (x : ℕ) → cell < x → bit_at greater x ≡ bit_at free x) where
  small : p.pattern.side * p.pattern.side ≤ 25
  small = few_cells p.pattern.side pat.low pat.high

  index_is : index ≡ suc (index - 1)
  index_is = omega arith

  lifted : IsLifted p.pattern.side p.cells (suc (index - 1)) free
  lifted = subst (λ k. IsLifted p.pattern.side p.cells k free) index_is h

  here_in : bit_at more (get_or p.cells (index - 1) 0) ≡ 1
  here_in = subst (λ x. bit_at more x ≡ 1) is_cell here

  others_in : (x : ℕ) → x ≢ get_or p.cells (index - 1) 0 → bit_at more x ≡ bit_at free x
  others_in x ne = others x (λ e. ne (e ∙ is_cell))

  -- where the last tile that isn't lifted has no greater free cell, it is lifted too
  pub lifted-more : greater ≡ 0 → IsLifted p.pattern.side p.cells (index - 1) more
  lifted-more none = IsLifted-more p.pattern.side small p.cells place.inside place.apart (index - 1) free lifted more bits here_in others_in
      (λ x l. sym (above x (omega arith)) ∙ ap (λ m. bit_at m x) none ∙ bit_at-zero x)

  module _ (upto : (x : ℕ) → x ≤ cell → bit_at greater x ≡ 0) (d : ℕ) (one : bit_at greater d ≡ 1) (lowest : (x : ℕ) → x < d → bit_at greater x ≡ 0)
      (rest : ℕ) (taken : bit_at rest d ≡ 0) (same : (x : ℕ) → x < 32 → x ≢ d → bit_at rest x ≡ bit_at more x) where
    goes_up : cell < d
    goes_up = elim (cases_lt cell d) [ inl l ↦ l | inr l ↦ absurd (let z = upto d l in omega arith) ]

    one_free : bit_at free d ≡ 1
    one_free = sym (above d goes_up) ∙ one

    none_between : (x : ℕ) → get_or p.cells (index - 1) 0 < x → x < d → bit_at free x ≡ 0
    none_between x l k = sym (above x (omega arith)) ∙ lowest x k

    up_in : get_or p.cells (index - 1) 0 < d
    up_in = let l = goes_up in omega arith

    left : length p.cells - suc (index - 1) ≡ length p.cells - index
    left = omega arith

    -- once that tile has gone to a greater cell, a free cell is left for each lifted tile
    pub lifted-room : rest < 2 ^ 32 → length p.cells - index ≤ count_ones rest
    lifted-room fits = subst (λ k. k ≤ count_ones rest) left
        (room p.pattern.side small p.cells place.inside place.apart
        (index - 1) free lifted more bits here_in others_in d up_in one_free none_between rest taken same fits)

    -- by masks: that tile in the least greater cell, and the first list of the rest, make the next list
    pub lifted-next : (q : List ℕ) → slice_get (lists_of (length p.cells - index) (numbers_of rest)) 0 ≡ Some q
        → IsNext (length p.cells) (range_with_len 0 (p.pattern.side * p.pattern.side)) p.cells (take (index - 1) p.cells ++ d ∷ q)
    lifted-next q first = IsNext-lifted p.pattern.side small p.cells place.inside place.apart
        (index - 1) free lifted more bits here_in others_in d up_in one_free none_between rest taken same q
        (subst (λ k. IsFirst k (numbers_of rest) q) (sym left) first)

-- ---- the least free cells, in order

pub record IsFilling (count free : ℕ) (cells : List ℕ) (i rest : ℕ) : Type 0 where
  pub upto : i ≤ count
  pub size : length cells ≡ count
  pub bits : rest < 2 ^ 32
  pub room : count ≤ i + length (numbers_of rest)
  pub whole : (q : List ℕ) → IsFirst (count - i) (numbers_of rest) q → IsFirst count (numbers_of free) (take i cells ++ q)

-- before a place is filled, all free cells are left, and there are enough of them
pub IsFilling-start : (count free : ℕ) (cells : List ℕ) → length cells ≡ count → free < 2 ^ 32 → count ≤ count_ones free → IsFilling count free cells 0 free
IsFilling-start count free cells size fits room = record {
  upto = omega arith;
  size = size;
  bits = fits;
  room = (let e = length-numbers_below 32 free fits in omega arith);
  whole = λ q first. let e : count - 0 ≡ count = omega arith in subst (λ k. IsFirst k (numbers_of free) q) e first;
}

module _ (count free : ℕ) (cells : List ℕ) (i rest : ℕ) (h : IsFilling count free cells i rest) (here : i < count) where
  -- while a place isn't filled, some free cell is left
  pub IsFilling-some : 0 < rest
  IsFilling-some = elim (cases_eq rest 0) [
    | inl e ↦ absurd (let z = ap length (ap numbers_of e ∙ numbers_below-zero 32) in let r = h.room in omega arith)
    | inr ne ↦ omega arith
  ]

  -- the least cell that is left fills the next place, and is left no longer
  pub IsFilling-more : (c next : ℕ) → c < 32 → bit_at rest c ≡ 1 → ((x : ℕ) → x < c → bit_at rest x ≡ 0) → next < 2 ^ 32 → bit_at next c ≡ 0
      → ((x : ℕ) → x < 32 → x ≢ c → bit_at next x ≡ bit_at rest x)
      → IsFilling count free (set cells i c) (i + 1) next
  IsFilling-more c next below one lowest bits taken same = record {
    upto = omega arith;
    size = length-set cells i c ∙ h.size;
    bits = bits;
    room = (let e = count-clear rest next c below one taken same in let r = h.room in omega arith);
    whole = λ q first.
        let m : suc (count - (i + 1)) ≡ count - i = omega arith in
        let least : slice_get (numbers_of rest) 0 ≡ Some c = ap (slice_get (numbers_of rest)) (sym (place-first rest c lowest))
        ∙ get-numbers_below 32 rest c one below in
        let others : IsFirst (count - (i + 1)) (without c (numbers_of rest)) q =
        subst (λ cs. IsFirst (count - (i + 1)) cs q) (numbers_below-clear 32 rest next c taken same) first in
        let found : IsFirst (count - i) (numbers_of rest) (c ∷ q) =
        subst (λ k. IsFirst k (numbers_of rest) (c ∷ q)) m
        (IsFirst-more (count - (i + 1)) (numbers_of rest) (ascending-numbers_below 32 rest) c q least others) in
        let inside : i < length cells = (let s = h.size in omega arith) in
        subst (λ xs. IsFirst count (numbers_of free) xs) (sym (append_assoc (take i cells) (c ∷ []) q)
        ∙ ap (λ xs. xs ++ q) (sym (take_more_set cells i c inside))) (h.whole (c ∷ q) found);
  }

-- once all places are filled, the list is the first one of the free cells
pub IsFilling-all : (count free : ℕ) (cells : List ℕ) (i rest : ℕ) → IsFilling count free cells i rest → count ≤ i → IsFirst count (numbers_of free) cells
IsFilling-all count free cells i rest h all =
    let none : 0 ≡ count - i = (let u = h.upto in omega arith) in
    subst (λ xs. IsFirst count (numbers_of free) xs) (append-nil (take i cells) ∙ take_all i cells (let s = h.size in omega arith))
    (h.whole [] (subst (λ k. IsFirst k (numbers_of rest) []) none (IsFirst-none (numbers_of rest))))

-- ---- ranks

module _ (p : ShownPlacement) where
  abbrev all_cells : List ℕ
  all_cells = range_with_len 0 (p.pattern.side * p.pattern.side)

  -- a placement has one rank
  rank_is : (r s : ℕ) → IsRank p.pattern.side p.cells r → slice_get (lists_of (length p.cells) all_cells) s ≡ Some p.cells → r ≡ s
  rank_is r s is found = IsRank-one p.pattern.side p.cells r s is (IsRank-from p.pattern.side p.cells s found)

  -- the list next to a placement's cells has the rank that is greater by 1
  pub IsRank-next : (q : List ℕ) → IsNext (length p.cells) all_cells p.cells q → (r : ℕ) → IsRank p.pattern.side p.cells r → IsRank p.pattern.side q (r + 1)
  IsRank-next q next r is =
      let size = (placement_of_rank (length p.cells) all_cells (suc next.rank) q next.then).0 in
      let more : suc next.rank ≡ r + 1 = (let e = rank_is r next.rank is next.is in omega arith) in
      subst (λ s. IsRank p.pattern.side q s) more (IsRank-from p.pattern.side q (suc next.rank)
      (subst (λ k. slice_get (lists_of k all_cells) (suc next.rank) ≡ Some q) (sym size) next.then))

  -- the list next to a placement's cells is a placement of the same pattern
  pub IsPlacement-next : IsPlacement p → (q : List ℕ) → IsNext (length p.cells) all_cells p.cells q → IsPlacement (placed p.pattern q)
  IsPlacement-next place q next =
      let z = placement_of_rank (length p.cells) all_cells (suc next.rank) q next.then in
      record { size = z.0 ∙ place.size; inside = inside_from (p.pattern.side * p.pattern.side) q z.2; apart = z.1 }

  -- where all tiles were lifted, the placement is the last one
  pub IsRank-last : (i free : ℕ) → i ≤ 0 → IsLifted p.pattern.side p.cells i free → (r : ℕ) → IsRank p.pattern.side p.cells r
      → r + 1 ≡ length (placements p.pattern.side (length p.cells))
  IsRank-last i free none h r is =
      let zero_left : i ≡ 0 = omega arith in
      let all : IsLifted p.pattern.side p.cells 0 free = subst (λ k. IsLifted p.pattern.side p.cells k free) zero_left h in
      let cells = numbers_of-left (p.pattern.side * p.pattern.side) free [] all.bits all.free_is in
      let size : length p.cells - 0 ≡ length p.cells = omega arith in
      let last : IsLast (length p.cells) all_cells p.cells =
      subst (λ k. IsLast k all_cells p.cells) size (subst (λ cs. IsLast (length p.cells - 0) cs p.cells) cells all.last) in
      let e = rank_is r last.rank is last.is in
      let f = last.end in
      let g = length-placements p.pattern.side (length p.cells) (p.pattern.side * p.pattern.side) (length p.cells) refl refl in
      omega arith

-- ---- the cells as they are stored

module _ (p : ShownPlacement) (place : IsPlacement p) (index size : ℕ) (some : 0 < index) (within : index ≤ size) (size_is : size ≡ length p.pattern.tiles)
    (stored cells : List ℕ) (same : cells ≡ stored) (long : length stored ≡ 8) (few : size ≤ 8) (shown : take (length p.pattern.tiles) stored ≡ p.cells) where
  length_cells : length p.cells ≡ size
  length_cells = place.size ∙ sym size_is

  length_stored : length cells ≡ 8
  length_stored = ap length same ∙ long

  shown_by : take size cells ≡ p.cells
  shown_by = ap (take size) same ∙ ap (λ k. take k stored) size_is ∙ shown

  -- in the array, the tile before this place has the cell that it has in the placement
  pub stored-cell : get_or cells (index - 1) 0 ≡ get_or p.cells (index - 1) 0
  stored-cell = sym (get_or-take size cells (index - 1) 0 (omega arith)) ∙ ap (λ xs. get_or xs (index - 1) 0) shown_by

  module _ (d : ℕ) where
    -- how many cells are behind it
    pub length-behind : length (take (size - (index - 1 + 1)) (drop (index - 1 + 1) (set cells (index - 1) d))) ≡ length p.cells - index
    length-behind =
        let e = length-set cells (index - 1) d in
        let f = length-drop (index - 1 + 1) (set cells (index - 1) d) in
        let g = length_stored in
        let h = length_cells in
        length-take-le (size - (index - 1 + 1)) (drop (index - 1 + 1) (set cells (index - 1) d)) (omega arith) ∙ (omega arith)

    module _ (q : List ℕ) (rest : length q ≡ length p.cells - index) where
      abbrev advanced : List ℕ
      advanced = put_mid (index - 1 + 1) (size - (index - 1 + 1)) (set cells (index - 1) d) q

      -- the array's front then has the first cells as they were, the greater one, and the list behind it
      pub take-advanced : take (length p.pattern.tiles) (put_mid (index - 1 + 1) (size - (index - 1 + 1)) (set cells (index - 1) d) q) ≡ take
          (index - 1) p.cells ++ d ∷ q
      take-advanced =
          ap (λ k. take k advanced) (sym size_is) ∙
          take-put_mid (index - 1 + 1) (size - (index - 1 + 1)) (set cells (index - 1) d) q size (let h = length_cells in
          omega arith) (let e = length-set cells (index - 1) d in let g = length_stored in omega arith) ∙
          ap (λ xs. xs ++ q) (take_more_set cells (index - 1) d (let g = length_stored in omega arith)) ∙
          append_assoc (take (index - 1) cells) (d ∷ []) q ∙
          ap (λ xs. xs ++ d ∷ q) (sym (take-take (index - 1) size cells (omega arith)) ∙ ap (take (index - 1)) shown_by)

      -- behind the cells of the tiles the array is then as it was
      pub drop-advanced : drop (length p.pattern.tiles) (put_mid (index - 1 + 1) (size - (index - 1 + 1)) (set cells (index - 1) d) q) ≡ drop
          (length p.pattern.tiles) stored
      drop-advanced =
          ap (λ k. drop k advanced) (sym size_is) ∙
          drop-put_mid (index - 1 + 1) (size - (index - 1 + 1)) (set cells (index - 1) d) q size (omega arith)
          (let e = length-set cells (index - 1) d in let g = length_stored in omega arith) (let h = length_cells in omega arith) ∙
          drop-set-lt size cells (index - 1) d (omega arith) ∙
          ap (drop size) same ∙
          ap (λ k. drop k stored) size_is

-- how many cells the first one of some lists has
pub length-first : (k : ℕ) (cs q : List ℕ) → IsFirst k cs q → length q ≡ k
length-first k cs q first = (placement_of_rank k cs 0 q first).0
