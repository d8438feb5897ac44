-- Lists of numbers, and the places of their elements.
use Rattle.std.proofs.Common.{◌≡◌, ℕ, zero, suc, ◌+◌, ◌<◌, ◌≤◌, Bool, true, false, cond, eqb, not, List, [], ◌∷◌, ◌++◌, length, Some, inl, inr, refl}
use Rattle.std.proofs.Common.{sym, ◌∙◌, ap, ap₂, arith, filter, get_or}
use Rattle.std.specs.Prelude.{◌&&◌}
use Rattle.std.specs.List.{AllByRecursion, range_with_len}
use Rattle.std.proofs.lemmas.Bool.{both_ways, or_parts, or_from, eq-eqb, ne_eqb, true≢false, cond-true, cond-false, and_right}
use Rattle.puz_board.proofs.HasLemmas.{has_cases, has-here, has-later}
use Rattle.pat_place.specs.Patterns.{has, IsAscending}
use Rattle.pat_place.specs.Placements.{IsApart}
use Rattle.pat_place.specs.Ranks.{without}

-- where the options that hold two elements are equal, so are the elements
pub Some-one : {A : Type 0} (x y : A) → Some x ≡ Some y → x ≡ y
Some-one x y e = cc

-- ---- ascending lists

-- a number below all of a list is below all that a filter leaves of it
pub above-filter : (p : ℕ → Bool) (a : ℕ) (cs : List ℕ) → AllByRecursion (λ y. a < y) cs → AllByRecursion (λ y. a < y) (filter p cs)
above-filter p a [] all = tt
above-filter p a (d ∷ cs) all = go (p d) (above-filter p a cs all.1)
  where
    go : (b : Bool) → AllByRecursion (λ y. a < y) (filter p cs) → AllByRecursion (λ y. a < y) (cond b (d ∷ filter p cs) (filter p cs))
    go true ih = (all.0, ih)
    go false ih = ih

-- what a filter leaves of an ascending list is ascending
pub ascending-filter : (p : ℕ → Bool) (cs : List ℕ) → IsAscending cs → IsAscending (filter p cs)
ascending-filter p [] up = tt
ascending-filter p (d ∷ cs) up = go (p d) (ascending-filter p cs up.1)
  where
    go : (b : Bool) → IsAscending (filter p cs) → IsAscending (cond b (d ∷ filter p cs) (filter p cs))
    go true ih = (above-filter p d cs up.0, ih)
    go false ih = ih

above-range : (b a n : ℕ) → b < a → AllByRecursion (λ y. b < y) (range_with_len a n)
above-range b a zero l = tt
above-range b a (suc n) l = (l, above-range b (a + 1) n (omega arith))

-- a range of numbers is an ascending list
pub ascending-range : (a n : ℕ) → IsAscending (range_with_len a n)
ascending-range a zero = tt
ascending-range a (suc n) = (above-range a (a + 1) n (omega arith), ascending-range (a + 1) n)

not_above : (a x : ℕ) (cs : List ℕ) → AllByRecursion (λ y. a < y) cs → x ≤ a → has cs x ≡ false
not_above a x [] all l = refl
not_above a x (d ∷ cs) all l = or_from (eqb d x) (has cs x) (ne_eqb d x (let k : a < d = all.0 in λ e. omega arith)) (not_above a x cs all.1 l)

-- an ascending list has no number twice
pub apart_from_ascending : (cs : List ℕ) → IsAscending cs → IsApart cs
apart_from_ascending [] up = tt
apart_from_ascending (d ∷ cs) up = (not_above d d cs up.0 (omega arith), apart_from_ascending cs up.1)

-- ---- the list without a number

-- taking out a number that a list hasn't leaves the list as it is
pub without-miss : (c : ℕ) (cs : List ℕ) → has cs c ≡ false → without c cs ≡ cs
without-miss c [] h = refl
without-miss c (d ∷ cs) h =
    let parts = or_parts (eqb d c) (has cs c) h in
    cond-true (not (eqb d c)) (d ∷ without c cs) (without c cs) (ap not parts.0) ∙ ap (λ l. d ∷ l) (without-miss c cs parts.1)

-- taking out the first number of a list, which comes no second time, leaves the rest
pub without-first : (c : ℕ) (cs : List ℕ) → has cs c ≡ false → without c (c ∷ cs) ≡ cs
without-first c cs h = cond-false (not (eqb c c)) (c ∷ without c cs) (without c cs) (ap not (eq-eqb c c refl)) ∙ without-miss c cs h

-- ---- filters of filters

-- on a range below n, two filters in turn choose as one does that asks for both
pub filter-filter_below : (n : ℕ) (p q r : ℕ → Bool) → ((x : ℕ) → x < n → (p x && q x) ≡ r x) → (a d : ℕ) → a + d ≤ n
    → filter p (filter q (range_with_len a d)) ≡ filter r (range_with_len a d)
filter-filter_below n p q r same a zero l = refl
filter-filter_below n p q r same a (suc d) l = go (p a) (q a) refl refl (same a (omega arith)) (filter-filter_below n p q r same (a + 1) d (omega arith))
  where
    xs : List ℕ
    xs = range_with_len (a + 1) d

    go : (b c : Bool) → p a ≡ b → q a ≡ c → (p a && q a) ≡ r a → filter p (filter q xs) ≡ filter r xs
        → filter p (cond (q a) (a ∷ filter q xs) (filter q xs)) ≡ cond (r a) (a ∷ filter r xs) (filter r xs)
    go true true ea eb s ih = ap (λ l. filter p l) (cond-true (q a) (a ∷ filter q xs) (filter q xs) eb)
        ∙ cond-true (p a) (a ∷ filter p (filter q xs)) (filter p (filter q xs)) ea ∙ ap (λ l. a ∷ l) ih
        ∙ sym (cond-true (r a) (a ∷ filter r xs) (filter r xs) (sym s ∙ ap₂ (λ b c. b && c) ea eb))
    go false true ea eb s ih = ap (λ l. filter p l) (cond-true (q a) (a ∷ filter q xs) (filter q xs) eb)
        ∙ cond-false (p a) (a ∷ filter p (filter q xs)) (filter p (filter q xs)) ea ∙ ih
        ∙ sym (cond-false (r a) (a ∷ filter r xs) (filter r xs) (sym s ∙ ap₂ (λ b c. b && c) ea eb))
    go b false ea eb s ih = ap (λ l. filter p l) (cond-false (q a) (a ∷ filter q xs) (filter q xs) eb) ∙ ih
        ∙ sym (cond-false (r a) (a ∷ filter r xs) (filter r xs) (sym s ∙ and_right (p a) (q a) eb))

-- where all numbers of a list pass, a filter leaves the whole list
pub filter_all : (p : ℕ → Bool) (xs : List ℕ) → AllByRecursion (λ x. p x ≡ true) xs → filter p xs ≡ xs
filter_all p [] all = refl
filter_all p (x ∷ xs) all = cond-true (p x) (x ∷ filter p xs) (filter p xs) all.0 ∙ ap (λ l. x ∷ l) (filter_all p xs all.1)

-- where no number of a list passes, a filter leaves nothing
pub filter_none : (p : ℕ → Bool) (xs : List ℕ) → AllByRecursion (λ x. p x ≡ false) xs → filter p xs ≡ []
filter_none p [] all = refl
filter_none p (x ∷ xs) all = cond-false (p x) (x ∷ filter p xs) (filter p xs) all.0 ∙ filter_none p xs all.1

-- to filter two joined lists is to filter each and to join what is left
pub filter-append : (p : ℕ → Bool) (xs ys : List ℕ) → filter p (xs ++ ys) ≡ filter p xs ++ filter p ys
filter-append p [] ys = refl
filter-append p (x ∷ xs) ys = go (p x) (filter-append p xs ys)
  where
    go : (b : Bool) → filter p (xs ++ ys) ≡ filter p xs ++ filter p ys
        → cond b (x ∷ filter p (xs ++ ys)) (filter p (xs ++ ys)) ≡ cond b (x ∷ filter p xs) (filter p xs) ++ filter p ys
    go true ih = ap (λ l. x ∷ l) ih
    go false ih = ih

-- a range of m + n numbers is one of m numbers and behind it one of n
pub range-append : (a m n : ℕ) → range_with_len a (m + n) ≡ range_with_len a m ++ range_with_len (a + m) n
range-append a zero n = ap₂ (λ b k. range_with_len b k) (let e : a ≡ a + 0 = omega arith in e) (let e : 0 + n ≡ n = omega arith in e)
range-append a (suc m) n =
    ap (range_with_len a) (let e : suc m + n ≡ suc (m + n) = omega arith in e) ∙
    ap (λ l. a ∷ l) (range-append (a + 1) m n ∙ ap (λ b. range_with_len (a + 1) m ++ range_with_len b n) (let e : a + 1 + m ≡ a + suc m = omega arith in e))

-- ---- by places

-- where all numbers of a list are below n, the one at any place of it is
pub all_at : {n : ℕ} (xs : List ℕ) (i : ℕ) → AllByRecursion (λ x. x < n) xs → i < length xs → get_or xs i 0 < n
all_at [] i all l = absurd (omega arith)
all_at (x ∷ xs) zero all l = all.0
all_at (x ∷ xs) (suc i) all l = all_at xs i all.1 (omega arith)

-- the number at a place of a list is one that the list has
pub has-at : (xs : List ℕ) (c i : ℕ) → i < length xs → get_or xs i 0 ≡ c → has xs c ≡ true
has-at [] c i l e = absurd (omega arith)
has-at (x ∷ xs) c zero l e = has-here c x xs e
has-at (x ∷ xs) c (suc i) l e = has-later c x xs (has-at xs c i (omega arith) e)

-- a number that a list has is at some place of it
pub at-has : (xs : List ℕ) (c : ℕ) → has xs c ≡ true → (i : ℕ) × (i < length xs) × (get_or xs i 0 ≡ c)
at-has [] c h = absurd (true≢false (sym h))
at-has (x ∷ xs) c h = elim (has_cases c x xs h) [
  | inl e ↦ (0, omega arith, e)
  | inr k ↦ let w = at-has xs c k in (suc w.0, (let l : w.0 < length xs = w.1 in omega arith), w.2)
]

-- in a list with no number twice, two places of the same number are one
pub apart_at : (xs : List ℕ) → IsApart xs → (i j : ℕ) → i < length xs → j < length xs → get_or xs i 0 ≡ get_or xs j 0 → i ≡ j
apart_at [] a i j l k e = absurd (omega arith)
apart_at (x ∷ xs) a zero zero l k e = refl
apart_at (x ∷ xs) a zero (suc j) l k e = absurd (both_ways (has xs x) a.0 (has-at xs x j (omega arith) (sym e)))
apart_at (x ∷ xs) a (suc i) zero l k e = absurd (both_ways (has xs x) a.0 (has-at xs x i (omega arith) e))
apart_at (x ∷ xs) a (suc i) (suc j) l k e = ap suc (apart_at xs a.1 i j (omega arith) (omega arith) e)
