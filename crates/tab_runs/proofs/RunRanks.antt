-- The ranks of a run stand side by side.
use Rattle.std.proofs.Common.{◌≡◌, ℕ, zero, suc, ◌+◌, ◌-◌, ◌*◌, ◌<◌, ◌≤◌, Bool, true, false, cond, eqb, not, List, [], ◌∷◌, ◌++◌, length, Some, inl}
use Rattle.std.proofs.Common.{inr, refl, sym, ◌∙◌, ap, ap₂, arith, filter}
use Rattle.std.specs.Prelude.{slice_get, ◌&&◌, ◌||◌}
use Rattle.std.specs.List.{AllByRecursion, range_with_len}
use Rattle.std.proofs.lemmas.Bool.{cases_eq, cases_Bool, both_ways, ne_eqb, eq-eqb, cond-true, cond-false}
use Rattle.std.proofs.lemmas.List.{length-append, length_push}
use Rattle.std.proofs.lemmas.List.FromFn.{length-range_with_len}
use Rattle.puz_board.proofs.HasLemmas.{has-filter, has-filter_not, has-get, in_range}
use Rattle.pat_place.specs.Patterns.{has, IsAscending}
use Rattle.pat_place.specs.Placements.{IsApart, IsFree}
use Rattle.pat_place.specs.Ranks.{without, lists_of, falling_factorial, IsRank}
use Rattle.pat_place.proofs.ListLemmas.{Some-one, apart_from_ascending, ascending-filter, ascending-range, filter-append, range-append}
use Rattle.pat_place.proofs.RankLemmas.{IsRank-from, falling_more, get-below, in_all, length-without, rank_step, still_in}
use Rattle.pat_place.proofs.NextLemmas.{get-has}
use Rattle.tab_runs.specs.RunPlaces.{IsFirstRank, run_length}
use Rattle.tab_runs.specs.Runs.{free_below, with_last}

-- ---- places in a list

get_middle : (xs ys : List ℕ) (x : ℕ) → slice_get (xs ++ x ∷ ys) (length xs) ≡ Some x
get_middle [] ys x = refl
get_middle (y ∷ xs) ys x = get_middle xs ys x

-- ---- the cells that no tile is in

abbrev is_open : List ℕ → ℕ → Bool
is_open p d = not (has p d)

-- the cells of a list that no tile of the run is in, in their order
abbrev pub others : List ℕ → List ℕ → List ℕ
others [] cs = cs
others (x ∷ p) cs = others p (without x cs)

filter-filter : (f g h : ℕ → Bool) → ((x : ℕ) → (f x && g x) ≡ h x) → (xs : List ℕ) → filter f (filter g xs) ≡ filter h xs
filter-filter f g h same [] = refl
filter-filter f g h same (x ∷ xs) = go (f x) (g x) refl refl (same x) (filter-filter f g h same xs)
  where
    go : (b c : Bool) → f x ≡ b → g x ≡ c → (f x && g x) ≡ h x → filter f (filter g xs) ≡ filter h xs
        → filter f (cond (g x) (x ∷ filter g xs) (filter g xs)) ≡ cond (h x) (x ∷ filter h xs) (filter h xs)
    go true true eb ec s ih = ap (filter f) (cond-true (g x) (x ∷ filter g xs) (filter g xs) ec)
        ∙ cond-true (f x) (x ∷ filter f (filter g xs)) (filter f (filter g xs)) eb ∙ ap (λ l. x ∷ l) ih
        ∙ sym (cond-true (h x) (x ∷ filter h xs) (filter h xs) (sym s ∙ ap₂ (λ b c. b && c) eb ec))
    go false true eb ec s ih = ap (filter f) (cond-true (g x) (x ∷ filter g xs) (filter g xs) ec)
        ∙ cond-false (f x) (x ∷ filter f (filter g xs)) (filter f (filter g xs)) eb ∙ ih
        ∙ sym (cond-false (h x) (x ∷ filter h xs) (filter h xs) (sym s ∙ ap₂ (λ b c. b && c) eb ec))
    go true false eb ec s ih = ap (filter f) (cond-false (g x) (x ∷ filter g xs) (filter g xs) ec) ∙ ih
        ∙ sym (cond-false (h x) (x ∷ filter h xs) (filter h xs) (sym s ∙ ap₂ (λ b c. b && c) eb ec))
    go false false eb ec s ih = ap (filter f) (cond-false (g x) (x ∷ filter g xs) (filter g xs) ec) ∙ ih
        ∙ sym (cond-false (h x) (x ∷ filter h xs) (filter h xs) (sym s ∙ ap₂ (λ b c. b && c) eb ec))

eqb_sym : (a b : ℕ) → eqb a b ≡ eqb b a
eqb_sym a b = elim (cases_eq a b) [ inl e ↦ eq-eqb a b e ∙ sym (eq-eqb b a (sym e)) | inr ne ↦ ne_eqb a b ne ∙ sym (ne_eqb b a (λ e. ne (sym e))) ]

not_or : (a b : Bool) → (not b && not a) ≡ not (a || b)
not_or true true = refl
not_or true false = refl
not_or false true = refl
not_or false false = refl

all_kept : (xs : List ℕ) → filter (is_open []) xs ≡ xs
all_kept [] = refl
all_kept (x ∷ xs) = ap (λ l. x ∷ l) (all_kept xs)

others-filter : (p cs : List ℕ) → others p cs ≡ filter (is_open p) cs
others-filter [] cs = sym (all_kept cs)
others-filter (x ∷ p) cs = others-filter p (without x cs) ∙ filter-filter (is_open p) (λ d. not (eqb d x)) (is_open (x ∷ p))
    (λ d. ap (λ b. is_open p d && not b) (eqb_sym d x) ∙ not_or (eqb x d) (has p d)) cs

-- ---- how many are below

open-free : (p : List ℕ) (c : ℕ) → has p c ≡ false → is_open p c ≡ true
open-free p c h = ap not h

-- a cell that no tile is in comes, among all such cells, behind as many as are below it
pub get-free_below : (p : List ℕ) (m c : ℕ) → c < m → has p c ≡ false → slice_get (filter (is_open p) (range_with_len 0 m)) (free_below p c) ≡ Some c
unfolding free_below
get-free_below p m c l free =
    ap (λ xs. slice_get xs (length (filter (is_open p) (range_with_len 0 c)))) (
    ap (λ k. filter (is_open p) (range_with_len 0 k)) (let e : m ≡ c + suc (m - c - 1) = omega arith in e) ∙
    ap (filter (is_open p)) (range-append 0 c (suc (m - c - 1))) ∙
    filter-append (is_open p) (range_with_len 0 c) (range_with_len (0 + c) (suc (m - c - 1))) ∙
    ap (λ k. filter (is_open p) (range_with_len 0 c) ++ filter (is_open p) (range_with_len k (suc (m - c - 1)))) (let e : 0 + c ≡ c = omega arith in e) ∙
    ap (λ ys. filter (is_open p) (range_with_len 0 c) ++ ys)
    (cond-true (is_open p c) (c ∷ filter (is_open p) (range_with_len (c + 1) (m - c - 1)))
    (filter (is_open p) (range_with_len (c + 1) (m - c - 1))) (open-free p c free))) ∙
    get_middle (filter (is_open p) (range_with_len 0 c)) (filter (is_open p) (range_with_len (c + 1) (m - c - 1))) c

-- below cell 0, no free cells of a run are counted
pub free_below-zero : (p : List ℕ) → free_below p 0 ≡ 0
unfolding free_below
free_below-zero p = refl

free_below-next : (p : List ℕ) (c : ℕ) → free_below p (c + 1) ≡ free_below p c + length (cond (is_open p c) (c ∷ []) [])
unfolding free_below
free_below-next p c =
    ap (λ xs. length (filter (is_open p) xs)) (range-append 0 c 1) ∙
    ap length (filter-append (is_open p) (range_with_len 0 c) (range_with_len (0 + c) 1)) ∙
    length-append (filter (is_open p) (range_with_len 0 c)) (filter (is_open p) (range_with_len (0 + c) 1)) ∙
    ap (λ k. length (filter (is_open p) (range_with_len 0 c)) + length (filter (is_open p) (range_with_len k 1))) (let e : 0 + c ≡ c = omega arith in e)

-- one cell further than a free one, one more free cell is below
pub free_below-free : (p : List ℕ) (c : ℕ) → has p c ≡ false → free_below p (c + 1) ≡ free_below p c + 1
free_below-free p c free = free_below-next p c ∙ ap (λ xs. free_below p c + length xs) (cond-true (is_open p c) (c ∷ []) [] (ap not free))

-- one cell further than a tile's, as many free cells are below as before
pub free_below-taken : (p : List ℕ) (c : ℕ) → has p c ≡ true → free_below p (c + 1) ≡ free_below p c
free_below-taken p c taken = free_below-next p c ∙ ap (λ xs. free_below p c + length xs) (cond-false (is_open p c) (c ∷ []) [] (ap not taken))
    ∙ (let e : free_below p c + 0 ≡ free_below p c = omega arith in e)

-- one cell further, of which two lists say the same
pub free_below-alike : (p q : List ℕ) (c more : ℕ) → has p c ≡ has q c → free_below q c ≡ free_below p c + more
    → free_below q (c + 1) ≡ free_below p (c + 1) + more
free_below-alike p q c more same e =
    let one : length (cond (is_open p c) (c ∷ []) []) ≡ length (cond (is_open q c) (c ∷ []) []) = ap (λ b. length (cond (not b) (c ∷ []) [])) same in
    let h = free_below-next p c in
    let k = free_below-next q c in
    omega arith

-- no more are below a smaller cell
pub free_below-up : (p : List ℕ) (c d : ℕ) → c ≤ d → free_below p c ≤ free_below p d
free_below-up p c zero l = ap-le (ap (free_below p) (let e : c ≡ zero = omega arith in e))
  where
    ap-le : {a b : ℕ} → a ≡ b → a ≤ b
    ap-le e = omega arith
free_below-up p c (suc d) l = elim (cases_eq c (suc d)) [
  | inl e ↦ (let same : free_below p c ≡ free_below p (suc d) = ap (free_below p) e in omega arith)
  | inr ne ↦
      let before = free_below-up p c d (omega arith) in
      let next : free_below p (suc d) ≡ free_below p d + length (cond (is_open p d) (d ∷ []) []) =
      ap (free_below p) (let e : suc d ≡ d + 1 = omega arith in e) ∙ free_below-next p d in
      omega arith
]

-- no two free cells have the same number of free cells below
pub free_below-one : (n : ℕ) (p : List ℕ) (c d : ℕ) → IsFree n p c → IsFree n p d → free_below p c ≡ free_below p d → c ≡ d
free_below-one n p c d free also same = Some-one c d (
    sym (get-free_below p (n * n) c free.0 free.1) ∙ ap (slice_get (filter (is_open p) (range_with_len 0 (n * n)))) same
    ∙ get-free_below p (n * n) d also.0 also.1)

length-others : (p cs : List ℕ) → IsAscending cs → IsApart p → AllByRecursion (λ x. has cs x ≡ true) p → length (others p cs) ≡ length cs - length p
length-others [] cs up apart all = omega arith
length-others (x ∷ p) cs up apart all =
    let ih = length-others p (without x cs) (ascending-filter (λ d. not (eqb d x)) cs up) apart.1 (still_in x p cs all.1 apart.0) in
    let one = length-without x cs (apart_from_ascending cs up) all.0 in
    omega arith

-- fewer free cells are below a free one than a run has placements
pub free_below-low : (n : ℕ) (p : List ℕ) (c : ℕ) → AllByRecursion (λ x. x < n * n) p → IsApart p → IsFree n p c → free_below p c < run_length n p
free_below-low n p c inside apart free =
    let l = get-below (filter (is_open p) (range_with_len 0 (n * n))) (free_below p c) c (get-free_below p (n * n) c free.0 free.1) in
    let e = ap length (others-filter p (range_with_len 0 (n * n))) in
    let k = length-others p (range_with_len 0 (n * n)) (ascending-range 0 (n * n)) apart (in_all (n * n) p inside) in
    let m = length-range_with_len 0 (n * n) in
    omega arith

get_some : (xs : List ℕ) (i : ℕ) → i < length xs → (x : ℕ) × (slice_get xs i ≡ Some x)
get_some [] i l = absurd (omega arith)
get_some (y ∷ xs) zero l = (y, refl)
get_some (y ∷ xs) (suc i) l = get_some xs i (omega arith)

get_one : (xs : List ℕ) → IsApart xs → (i j c : ℕ) → slice_get xs i ≡ Some c → slice_get xs j ≡ Some c → i ≡ j
get_one [] apart i j c e f = cc
get_one (y ∷ xs) apart zero zero c e f = refl
get_one (y ∷ xs) apart zero (suc j) c e f = absurd (both_ways (has xs c) (ap (has xs) (sym (Some-one y c e)) ∙ apart.0) (has-get xs j c f))
get_one (y ∷ xs) apart (suc i) zero c e f = absurd (both_ways (has xs c) (ap (has xs) (sym (Some-one y c f)) ∙ apart.0) (has-get xs i c e))
get_one (y ∷ xs) apart (suc i) (suc j) c e f = ap suc (get_one xs apart.1 i j c e f)

-- each number below the run's length is that of a free cell
pub free_at : (n : ℕ) (p : List ℕ) → AllByRecursion (λ x. x < n * n) p → IsApart p → (k : ℕ) → k < run_length n p → (c : ℕ) × IsFree n p c
    × (free_below p c ≡ k)
free_at n p inside apart k l = (c, free, get_one xs up (free_below p c) k c (get-free_below p (n * n) c free.0 free.1) found)
  where
    xs : List ℕ
    xs = filter (is_open p) (range_with_len 0 (n * n))

    up : IsApart xs
    up = apart_from_ascending xs (ascending-filter (is_open p) (range_with_len 0 (n * n)) (ascending-range 0 (n * n)))

    some : (c : ℕ) × (slice_get xs k ≡ Some c)
    some = get_some xs k (
        let e = ap length (others-filter p (range_with_len 0 (n * n))) in
        let m = length-others p (range_with_len 0 (n * n)) (ascending-range 0 (n * n)) apart (in_all (n * n) p inside) in
        let r = length-range_with_len 0 (n * n) in
        omega arith)

    c : ℕ
    c = some.0

    found : slice_get xs k ≡ Some c
    found = some.1

    free : IsFree n p c
    free = elim (cases_Bool (has p c)) [
      | inl t ↦ absurd (both_ways (has xs c) (has-filter_not (is_open p) c (range_with_len 0 (n * n)) (ap not t)) (has-get xs k c found))
      | inr f ↦ (
        (let w = in_range 0 (n * n) c (sym (has-filter (is_open p) c (range_with_len 0 (n * n)) (ap not f)) ∙ has-get xs k c found) in let l = w.1 in
            omega arith),
        f,
      )
    ]

-- ---- ranks

record HasRun (p cs : List ℕ) (r : ℕ) : Type 0 where
  whole : slice_get (lists_of (length p) cs) r ≡ Some p
  more : (place c : ℕ) → slice_get (others p cs) place ≡ Some c
      → slice_get (lists_of (suc (length p)) cs) (r * (length cs - length p) + place) ≡ Some (with_last p c)

regroup : (q f d r place : ℕ) → (q * f + r) * d + place ≡ q * (f * d) + (r * d + place)
regroup q f d r place = omega arith

run_total : (p cs : List ℕ) → IsAscending cs → IsApart p → AllByRecursion (λ x. has cs x ≡ true) p → (r : ℕ) × HasRun p cs r
run_total [] cs up apart all = (
  0,
  record {
    whole = refl;
    more = λ place c e.
        ap (slice_get (lists_of 1 cs)) (let a : 0 * (length cs - 0) + place ≡ place * 1 + 0 = omega arith in a) ∙
        rank_step 0 cs (apart_from_ascending cs up) place c 0 [] e refl;
  },
)
run_total (x ∷ p) cs up apart all = go (get-has cs x all.0)
    (run_total p (without x cs) (ascending-filter (λ d. not (eqb d x)) cs up) apart.1 (still_in x p cs all.1 apart.0))
  where
    go : ((q : ℕ) × (slice_get cs q ≡ Some x)) → ((r : ℕ) × HasRun p (without x cs) r) → (r : ℕ) × HasRun (x ∷ p) cs r
    go at ih = (
      at.0 * falling_factorial (length cs - 1) (length p) + ih.0,
      record {
        whole = rank_step (length p) cs (apart_from_ascending cs up) at.0 x ih.0 p at.1 ih.1.whole;
        more = λ place c e.
            let m = length-without x cs (apart_from_ascending cs up) all.0 in
            let d : length cs - suc (length p) ≡ length cs - 1 - length p = omega arith in
            let f : length (without x cs) - length p ≡ length cs - 1 - length p = omega arith in
            ap (slice_get (lists_of (suc (suc (length p))) cs)) (
            ap (λ k. (at.0 * falling_factorial (length cs - 1) (length p) + ih.0) * k + place) d ∙
            regroup at.0 (falling_factorial (length cs - 1) (length p)) (length cs - 1 - length p) ih.0 place ∙
            ap₂ (λ g k. at.0 * g + (ih.0 * k + place)) (sym (falling_more (length cs - 1) (length p))) (sym f)) ∙
            rank_step (suc (length p)) cs (apart_from_ascending cs up) at.0 x (ih.0 * (length (without x cs) - length p) + place)
            (with_last p c) at.1 (ih.1.more place c e);
      },
    )

-- a run has a first rank: as many placements are before it as its number times its length
pub first_some : (n : ℕ) (p : List ℕ) → AllByRecursion (λ x. x < n * n) p → IsApart p → (r : ℕ) × IsRank n p r × IsFirstRank n p (r * run_length n p)
first_some n p inside apart = go (run_total p (range_with_len 0 (n * n)) (ascending-range 0 (n * n)) apart (in_all (n * n) p inside))
  where
    go : ((r : ℕ) × HasRun p (range_with_len 0 (n * n)) r) → (r : ℕ) × IsRank n p r × IsFirstRank n p (r * run_length n p)
    go h = (
      h.0,
      IsRank-from n p h.0 h.1.whole,
      record {
        each = λ c free.
            IsRank-from n (with_last p c) (h.0 * run_length n p + free_below p c) (
            ap (λ k. slice_get (lists_of k (range_with_len 0 (n * n))) (h.0 * run_length n p + free_below p c))
            (length_push p c ∙ (let e : length p + 1 ≡ suc (length p) = omega arith in e)) ∙
            ap (λ k. slice_get (lists_of (suc (length p)) (range_with_len 0 (n * n))) (h.0 * (k - length p) + free_below p c))
            (sym (length-range_with_len 0 (n * n))) ∙
            h.1.more (free_below p c) c (ap (λ xs. slice_get xs (free_below p c)) (others-filter p (range_with_len 0 (n * n)))
            ∙ get-free_below p (n * n) c free.0 free.1));
      },
    )
