-- The first number, and the first byte, that passes a test.
use Rattle.std.proofs.Common.{◌≡◌, ℕ, zero, suc, ◌+◌, ◌<◌, Bool, true, false, cond, ltb, List, length, get_or, Some, None, refl, sym, ◌∙◌, ap, subst}
use Rattle.std.proofs.Common.{arith, not}
use Rattle.std.proofs.lemmas.Bool.{cond-true, cond-false, le-ltb, lt-ltb, ltb-false, ltb-true}
use Rattle.std.proofs.lemmas.Grind.{get_or_default_zero}
use Rattle.std.proofs.lemmas.List.Sums.{fails_before_first, passes_at_first, position_or_len_is}
use Rattle.std.specs.Prelude.{position}
use Rattle.std.specs.List.{AllPass, find, position_or_len, range_with_len}
use Rattle.puz_board.specs.First.{first_below}

-- ---- the numbers from a on

find-none : (test : ℕ → Bool) (a n : ℕ) → ((k : ℕ) → k < n → test (a + k) ≡ false) → find test (range_with_len a n) ≡ None
find-none test a zero h = refl
find-none test a (suc n) h =
    let here : a + 0 ≡ a = omega arith in
    cond-false (test a) (Some a) (find test (range_with_len (a + 1) n)) (ap test (sym here) ∙ h 0 (omega arith)) ∙
    find-none test (a + 1) n (λ k l. let next : a + 1 + k ≡ a + suc k = omega arith in ap test next ∙ h (suc k) (omega arith))

find-some : (test : ℕ → Bool) (a n i : ℕ) → i < n → ((k : ℕ) → k < i → test (a + k) ≡ false) → test (a + i) ≡ true
    → find test (range_with_len a n) ≡ Some (a + i)
find-some test a zero i l h e = absurd (omega arith)
find-some test a (suc n) zero l h e =
    let here : a + 0 ≡ a = omega arith in
    cond-true (test a) (Some a) (find test (range_with_len (a + 1) n)) (ap test (sym here) ∙ e) ∙ ap Some (sym here)
find-some test a (suc n) (suc i) l h e =
    let here : a + 0 ≡ a = omega arith in
    let place : a + 1 + i ≡ a + suc i = omega arith in
    cond-false (test a) (Some a) (find test (range_with_len (a + 1) n)) (ap test (sym here) ∙ h 0 (omega arith)) ∙
    find-some test (a + 1) n i (omega arith)
    (λ k l. let next : a + 1 + k ≡ a + suc k = omega arith in ap test next ∙ h (suc k) (omega arith))
    (ap test place ∙ e) ∙
    ap Some place

passed_over : (test : ℕ → Bool) (a n k : ℕ) → find test (range_with_len a n) ≡ None → k < n → test (a + k) ≡ false
passed_over test a zero k e l = absurd (omega arith)
passed_over test a (suc n) k e l =
    go (test a) refl k e l (λ f j m. let next : a + suc j ≡ a + 1 + j = omega arith in ap test next ∙ passed_over test (a + 1) n j f m)
  where
    go : (b : Bool) → test a ≡ b → (k : ℕ) → cond b (Some a) (find test (range_with_len (a + 1) n)) ≡ None → k < suc n
        → (find test (range_with_len (a + 1) n) ≡ None → (j : ℕ) → j < n → test (a + suc j) ≡ false) → test (a + k) ≡ false
    go true p k e l later = cc
    go false p zero e l later = let here : a + 0 ≡ a = omega arith in ap test here ∙ p
    go false p (suc k) e l later = later e k (omega arith)

-- ---- the first number below n

-- no number below n passes
pub first_below-none : (test : ℕ → Bool) (n : ℕ) → ((k : ℕ) → k < n → test k ≡ false) → first_below test n ≡ None
unfolding first_below
first_below-none test n h = find-none test 0 n (λ k l. let same : 0 + k ≡ k = omega arith in ap test same ∙ h k l)

-- i passes, and no number before it
pub first_below-some : (test : ℕ → Bool) (n i : ℕ) → i < n → ((k : ℕ) → k < i → test k ≡ false) → test i ≡ true → first_below test n ≡ Some i
unfolding first_below
first_below-some test n i l h e =
    let same : (k : ℕ) → 0 + k ≡ k = λ k. omega arith in
    find-some test 0 n i l (λ k m. ap test (same k) ∙ h k m) (ap test (same i) ∙ e) ∙ ap Some (same i)

-- and back
pub fails_below : (test : ℕ → Bool) (n : ℕ) → first_below test n ≡ None → (k : ℕ) → k < n → test k ≡ false
unfolding first_below
fails_below test n e k l = let same : k ≡ 0 + k = omega arith in ap test same ∙ passed_over test 0 n k e l

-- ---- the first number of a list

-- where all numbers of a list fail a test, the list has no first place where it passes
pub position-none : (test : ℕ → Bool) (xs : List ℕ) → ((k : ℕ) → k < length xs → test (get_or xs k 0) ≡ false) → position test xs ≡ None
position-none test xs h =
    let whole = position_or_len_is test xs (length xs) 0 (omega arith) h (λ l. absurd (omega arith)) in
    cond-false (ltb (position_or_len test xs) (length xs)) (Some (position_or_len test xs)) None (le-ltb (position_or_len test xs) (length xs) (omega arith))

-- where a list has no first place that passes a test, each of its numbers fails the test
pub fails_each : (test : ℕ → Bool) (xs : List ℕ) → position test xs ≡ None → (k : ℕ) → k < length xs → test (get_or xs k 0) ≡ false
fails_each test xs e k l =
    let over = ltb-false (position_or_len test xs) (length xs) (not_below (ltb (position_or_len test xs) (length xs)) (position_or_len test xs) e) in
    fails_before_first test xs k 0 (omega arith)
  where
    not_below : (b : Bool) (i : ℕ) → cond b (Some i) None ≡ None → b ≡ false
    not_below true i e = cc
    not_below false i e = refl

-- each passes the test, or none fails it
pub position-AllPass : (test : ℕ → Bool) (xs : List ℕ) → AllPass test xs → position (λ x. not (test x)) xs ≡ None
position-AllPass test xs all = position-none (λ x. not (test x)) xs (λ k l. ap not (all k 0 l))

-- where no number of a list is the first to fail a test, all of them pass it
pub AllPass-position : (test : ℕ → Bool) (xs : List ℕ) → position (λ x. not (test x)) xs ≡ None → AllPass test xs
AllPass-position test xs e k d l =
    ap test (get_or_default_zero xs k d l) ∙ passes (test (get_or xs k 0)) (fails_each (λ x. not (test x)) xs e k l)
  where
    passes : (b : Bool) → not b ≡ false → b ≡ true
    passes true e = refl
    passes false e = cc

-- the test passes at i, and at no place before
pub position-some : (test : ℕ → Bool) (xs : List ℕ) (i : ℕ) → i < length xs → ((k : ℕ) → k < i → test (get_or xs k 0) ≡ false)
    → test (get_or xs i 0) ≡ true → position test xs ≡ Some i
position-some test xs i l before here =
    let is = position_or_len_is test xs i 0 (omega arith) before (λ m. here) in
    cond-true (ltb (position_or_len test xs) (length xs)) (Some (position_or_len test xs)) None (lt-ltb (position_or_len test xs) (length xs) (omega arith)) ∙
    ap Some is

pub record IsFirst (test : ℕ → Bool) (xs : List ℕ) (i : ℕ) : Type 0 where
  pub within : i < length xs
  pub before : (k : ℕ) → k < i → test (get_or xs k 0) ≡ false
  pub here : test (get_or xs i 0) ≡ true

-- the place that a search answers is the first one that passes the test
pub first-position : (test : ℕ → Bool) (xs : List ℕ) (i : ℕ) → position test xs ≡ Some i → IsFirst test xs i
first-position test xs i e = go (ltb (position_or_len test xs) (length xs)) refl e
  where
    go : (b : Bool) → ltb (position_or_len test xs) (length xs) ≡ b → cond b (Some (position_or_len test xs)) None ≡ Some i → IsFirst test xs i
    go false p f = cc
    go true p f =
        let is : position_or_len test xs ≡ i = cc in
        let within = ltb-true (position_or_len test xs) (length xs) p in
        subst (IsFirst test xs) is
        (record { within = within; before = λ k l. fails_before_first test xs k 0 l; here = passes_at_first test xs 0 within })
