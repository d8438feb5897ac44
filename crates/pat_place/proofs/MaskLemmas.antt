-- Masks as lists of numbers.
use Rattle.std.proofs.Common.{◌≡◌, ◌≢◌, ℕ, zero, suc, ◌+◌, ◌-◌, ◌^◌, ◌<◌, ◌≤◌, true, false, cond, eqb, not, ◌⊎◌, List, [], ◌∷◌, ◌++◌, length, Some}
use Rattle.std.proofs.Common.{inl, inr, refl, sym, ◌∙◌, ap, ap₂, arith, filter, mod-eq_of_lt}
use Rattle.std.specs.Prelude.{slice_get, count_ones, ◌&&◌}
use Rattle.std.specs.Int.{bit_at}
use Rattle.std.specs.List.{AllByRecursion, range_with_len}
use Rattle.std.proofs.lemmas.Bool.{cases_eq, cases_Bool, both_ways, eqb-true, eq-eqb, ne_eqb, cond-true, cond-false}
use Rattle.std.proofs.lemmas.List.{append-nil}
use Rattle.std.proofs.lemmas.Nat.Bits.{bit_at-lt, bit_at_ones, bit_at_ones_above, bit_at-zero}
use Rattle.puz_board.specs.Masks.{has_bit, numbers_below, numbers_of, ones_below}
use Rattle.puz_board.proofs.BitLemmas.{in_below, sub_le}
use Rattle.puz_board.proofs.OnesLemmas.{ones_below-mono, ones_below-suc, ones_below-zero}
use Rattle.puz_board.proofs.HasLemmas.{has-filter, has-filter_not, has-range, in_range}
use Rattle.pat_place.specs.Patterns.{has, IsAscending}
use Rattle.pat_place.specs.Placements.{IsApart}
use Rattle.pat_place.specs.Ranks.{without}
use Rattle.pat_place.proofs.ListLemmas.{Some-one, ascending-filter, ascending-range, filter-filter_below, without-first, apart_from_ascending}
use Rattle.pat_place.proofs.ListLemmas.{filter_all, filter_none, filter-append, range-append}

-- the place of a number in the list
pub place-filter : (m c a n place : ℕ) → bit_at m c ≡ 1 → a ≤ c → c < a + n → place + ones_below m a ≡ ones_below m c
    → slice_get (filter (has_bit m) (range_with_len a n)) place ≡ Some c
place-filter m c a zero place set from to count = absurd (omega arith)
place-filter m c a (suc n) place set from to count = go (λ i e l. place-filter m c (a + 1) n i set l (omega arith) e) (cases_eq a c) (cases_eq (bit_at m a) 1)
  where
    rest : List ℕ
    rest = filter (has_bit m) (range_with_len (a + 1) n)

    next : ones_below m (a + 1) ≡ ones_below m a + bit_at m a
    next = ap (ones_below m) (let e : a + 1 ≡ suc a = omega arith in e) ∙ ones_below-suc m a

    first : (place : ℕ) → place ≡ 0 → slice_get (c ∷ rest) place ≡ Some c
    first zero e = refl
    first (suc i) e = absurd (omega arith)

    later : ((i : ℕ) → i + ones_below m (a + 1) ≡ ones_below m c → a + 1 ≤ c → slice_get rest i ≡ Some c) → (place : ℕ)
        → place + ones_below m a ≡ ones_below m c → bit_at m a ≡ 1 → a ≢ c → slice_get (a ∷ rest) place ≡ Some c
    later ih zero e one ne = absurd (let up = ones_below-mono m (a + 1) c (omega arith) in let n = next in omega arith)
    later ih (suc i) e one ne = ih i (let n = next in omega arith) (omega arith)

    go : ((i : ℕ) → i + ones_below m (a + 1) ≡ ones_below m c → a + 1 ≤ c → slice_get rest i ≡ Some c) → (a ≡ c) ⊎ (a ≡ c → ⊥) → (bit_at m a ≡ 1)
        ⊎ (bit_at m a ≡ 1 → ⊥) → slice_get (cond (has_bit m a) (a ∷ rest) rest) place ≡ Some c
    go ih (inl e) b = ap (λ l. slice_get l place) (cond-true (has_bit m a) (a ∷ rest) rest (eq-eqb (bit_at m a) 1 (ap (bit_at m) e ∙ set))
        ∙ ap (λ x. x ∷ rest) e) ∙ first place (let same : ones_below m a ≡ ones_below m c = ap (ones_below m) e in omega arith)
    go ih (inr ne) (inl one) = ap (λ l. slice_get l place) (cond-true (has_bit m a) (a ∷ rest) rest (eq-eqb (bit_at m a) 1 one)) ∙ later ih place count one ne
    go ih (inr ne) (inr other) = ap (λ l. slice_get l place) (cond-false (has_bit m a) (a ∷ rest) rest (ne_eqb (bit_at m a) 1 other))
        ∙ ih place (let n = next in let b = bit_at-lt m a in omega arith) (omega arith)

-- in the list of a mask's numbers, the place of one is the count of the smaller ones
pub get-numbers_below : (n m c : ℕ) → bit_at m c ≡ 1 → c < n → slice_get (numbers_below n m) (ones_below m c) ≡ Some c
unfolding numbers_below
get-numbers_below n m c set l = place-filter m c 0 n (ones_below m c) set (omega arith) (omega arith) (let e = ones_below-zero m in omega arith)

-- the numbers of a mask are listed in ascending order
pub ascending-numbers_below : (n m : ℕ) → IsAscending (numbers_below n m)
unfolding numbers_below
ascending-numbers_below n m = ascending-filter (has_bit m) (range_with_len 0 n) (ascending-range 0 n)

-- a number below n whose bit is set is among the mask's numbers below n
pub has-numbers_below : (n m x : ℕ) → x < n → bit_at m x ≡ 1 → has (numbers_below n m) x ≡ true
unfolding numbers_below
has-numbers_below n m x l set = has-filter (has_bit m) x (range_with_len 0 n) (eq-eqb (bit_at m x) 1 set) ∙ has-range 0 n x (omega arith) (omega arith)

-- each of a mask's numbers below n is below n, and its bit is set
pub in_numbers_below : (n m x : ℕ) → has (numbers_below n m) x ≡ true → (x < n) × (bit_at m x ≡ 1)
unfolding numbers_below
in_numbers_below n m x h = go (cases_Bool (has_bit m x))
  where
    go : (has_bit m x ≡ true) ⊎ (has_bit m x ≡ false) → (x < n) × (bit_at m x ≡ 1)
    go (inl t) = let w = in_range 0 n x (sym (has-filter (has_bit m) x (range_with_len 0 n) t) ∙ h) in (let l = w.1 in omega arith, eqb-true (bit_at m x) 1 t)
    go (inr f) = absurd (both_ways (has (numbers_below n m) x) (has-filter_not (has_bit m) x (range_with_len 0 n) f) h)

-- ---- how many

length-filter : (m a n : ℕ) → length (filter (has_bit m) (range_with_len a n)) + ones_below m a ≡ ones_below m (a + n)
length-filter m a zero = let e : ones_below m a ≡ ones_below m (a + 0) = ap (ones_below m) (let e : a ≡ a + 0 = omega arith in e) in omega arith
length-filter m a (suc n) = go (cases_eq (bit_at m a) 1) (length-filter m (a + 1) n)
  where
    rest : List ℕ
    rest = filter (has_bit m) (range_with_len (a + 1) n)

    next : ones_below m (a + 1) ≡ ones_below m a + bit_at m a
    next = ap (ones_below m) (let e : a + 1 ≡ suc a = omega arith in e) ∙ ones_below-suc m a

    end : ones_below m (a + 1 + n) ≡ ones_below m (a + suc n)
    end = ap (ones_below m) (let e : a + 1 + n ≡ a + suc n = omega arith in e)

    go : (bit_at m a ≡ 1) ⊎ (bit_at m a ≡ 1 → ⊥) → length rest + ones_below m (a + 1) ≡ ones_below m (a + 1 + n)
        → length (cond (has_bit m a) (a ∷ rest) rest) + ones_below m a ≡ ones_below m (a + suc n)
    go (inl one) ih = let l : length (cond (has_bit m a) (a ∷ rest) rest) ≡ suc (length rest) =
        ap length (cond-true (has_bit m a) (a ∷ rest) rest (eq-eqb (bit_at m a) 1 one)) in let n = next in let e = end in omega arith
    go (inr other) ih = let l : length (cond (has_bit m a) (a ∷ rest) rest) ≡ length rest =
        ap length (cond-false (has_bit m a) (a ∷ rest) rest (ne_eqb (bit_at m a) 1 other)) in let n = next in let e = end in let b = bit_at-lt m a in
        omega arith

-- a mask of n bits has as many numbers as it has bits that are set
pub length-numbers_below : (n m : ℕ) → m < 2 ^ n → length (numbers_below n m) ≡ count_ones m
unfolding numbers_below
length-numbers_below n m l =
    let e = length-filter m 0 n in
    let z = ones_below-zero m in
    let w : ones_below m (0 + n) ≡ count_ones m = ap (ones_below m) (let e : 0 + n ≡ n = omega arith in e) ∙ ap count_ones (mod-eq_of_lt l) in
    omega arith

-- ---- bits that are cleared, and masks that are full

-- the mask without the number c
pub numbers_below-clear : (n m k c : ℕ) → bit_at k c ≡ 0 → ((x : ℕ) → x < n → x ≢ c → bit_at k x ≡ bit_at m x)
    → numbers_below n k ≡ without c (numbers_below n m)
unfolding numbers_below
numbers_below-clear n m k c clear same = sym (filter-filter_below n (λ d. not (eqb d c)) (has_bit m) (has_bit k) each 0 n (omega arith))
  where
    each : (x : ℕ) → x < n → (not (eqb x c) && has_bit m x) ≡ has_bit k x
    each x l = elim (cases_eq x c) [
      | inl e ↦ ap (λ b. not b && has_bit m x) (eq-eqb x c e)
          ∙ sym (ne_eqb (bit_at k x) 1 (λ one. let z : bit_at k x ≡ 0 = ap (bit_at k) e ∙ clear in omega arith))
      | inr ne ↦ ap (λ b. not b && has_bit m x) (ne_eqb x c ne) ∙ ap (λ b. eqb b 1) (sym (same x l ne))
    ]

-- the lowest number comes first
pub numbers_below-first : (n m k c : ℕ) → c < n → bit_at m c ≡ 1 → ((x : ℕ) → x < c → bit_at m x ≡ 0) → bit_at k c ≡ 0
    → ((x : ℕ) → x < n → x ≢ c → bit_at k x ≡ bit_at m x) → numbers_below n m ≡ c ∷ numbers_below n k
numbers_below-first n m k c l one none clear same =
    go (numbers_below n m) (get-numbers_below n m c one l) (apart_from_ascending (numbers_below n m) (ascending-numbers_below n m))
    (numbers_below-clear n m k c clear same)
  where
    first : (x : ℕ) → x ≤ c → ones_below m x ≡ 0
    first zero l = ones_below-zero m
    first (suc x) l = let ih = first x (omega arith) in let z = none x (omega arith) in let e = ones_below-suc m x in omega arith

    go : (xs : List ℕ) → slice_get xs (ones_below m c) ≡ Some c → IsApart xs → numbers_below n k ≡ without c xs → xs ≡ c ∷ numbers_below n k
    go xs get apart rest = head xs (sym (ap (slice_get xs) (first c (omega arith))) ∙ get) apart rest
      where
        head : (xs : List ℕ) → slice_get xs 0 ≡ Some c → IsApart xs → numbers_below n k ≡ without c xs → xs ≡ c ∷ numbers_below n k
        head [] get apart rest = cc
        head (x ∷ xs) get apart rest =
            let same : x ≡ c = Some-one x c get in
            let out : has xs c ≡ false = ap (has xs) (sym same) ∙ apart.0 in
            ap (λ y. y ∷ xs) same ∙ ap (λ l. c ∷ l) (sym (rest ∙ ap (λ y. without c (y ∷ xs)) same ∙ without-first c xs out))

-- all bits below n
pub numbers_below-full : (k n : ℕ) → n ≤ k → numbers_below k (2 ^ n - 1) ≡ range_with_len 0 n
unfolding numbers_below
numbers_below-full k n l =
    let e : n + (k - n) ≡ k = omega arith in
    ap (λ m. filter (has_bit (2 ^ n - 1)) (range_with_len 0 m)) (sym e) ∙
    ap (filter (has_bit (2 ^ n - 1))) (range-append 0 n (k - n)) ∙
    filter-append (has_bit (2 ^ n - 1)) (range_with_len 0 n) (range_with_len (0 + n) (k - n)) ∙
    ap₂ (λ xs ys. xs ++ ys) (filter_all (has_bit (2 ^ n - 1)) (range_with_len 0 n) (low 0 n (omega arith)))
    (filter_none (has_bit (2 ^ n - 1)) (range_with_len (0 + n) (k - n)) (high (0 + n) (k - n) (omega arith))) ∙
    append-nil (range_with_len 0 n)
  where
    low : (a d : ℕ) → a + d ≤ n → AllByRecursion (λ x. has_bit (2 ^ n - 1) x ≡ true) (range_with_len a d)
    low a zero l = tt
    low a (suc d) l = (eq-eqb (bit_at (2 ^ n - 1) a) 1 (bit_at_ones n a (omega arith)), low (a + 1) d (omega arith))

    high : (a d : ℕ) → n ≤ a → AllByRecursion (λ x. has_bit (2 ^ n - 1) x ≡ false) (range_with_len a d)
    high a zero l = tt
    high a (suc d) l = (ne_eqb (bit_at (2 ^ n - 1) a) 1 (let e = bit_at_ones_above n a l in λ one. omega arith), high (a + 1) d (omega arith))

-- the mask without any bit has no numbers
pub numbers_below-zero : (n : ℕ) → numbers_below n 0 ≡ []
unfolding numbers_below
numbers_below-zero n = filter_none (has_bit 0) (range_with_len 0 n) (none 0 n)
  where
    none : (a d : ℕ) → AllByRecursion (λ x. has_bit 0 x ≡ false) (range_with_len a d)
    none a zero = tt
    none a (suc d) = (ne_eqb (bit_at 0 a) 1 (let e = bit_at-zero a in λ one. omega arith), none (a + 1) d)

-- ---- a mask is known by its numbers

numbers_of-le : (a b : ℕ) → a < 2 ^ 32 → numbers_of a ≡ numbers_of b → a ≤ b
numbers_of-le a b fits same = sub_le a b (λ x is.
    (in_numbers_below 32 b x (sym (ap (λ xs. has xs x) same) ∙ has-numbers_below 32 a x (in_below a 32 x fits is) is)).1)

-- two masks of 32 bits with the same numbers are equal
pub numbers_of-one : (a b : ℕ) → a < 2 ^ 32 → b < 2 ^ 32 → numbers_of a ≡ numbers_of b → a ≡ b
numbers_of-one a b fits also same = let low = numbers_of-le a b fits same in let high = numbers_of-le b a also (sym same) in omega arith
