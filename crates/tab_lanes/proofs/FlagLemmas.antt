-- Lanes that are all ones where a test holds, and 0 where it doesn't.
use Rattle.std.proofs.Common.{◌≡◌, ℕ, suc, ◌+◌, ◌-◌, ◌*◌, ◌%◌, ◌^◌, ◌<◌, ◌≤◌, Bool, true, false, not, cond, eqb, eqb-true, eq-eqb, List, [], ◌∷◌, map}
use Rattle.std.proofs.Common.{length, get_or, replicate, refl, sym, ap, ◌∙◌, subst, arith, w32}
use Rattle.std.specs.Int.{bit_at}
use Rattle.std.proofs.lemmas.List.{get_or-map, length-map}
use Rattle.std.proofs.lemmas.Simd.{tops_compared, length-zip2, get_or-zip2, length-replicate, get_or-replicate, mask_l-lt, mask_l-mod, bit_mask_l}
use Rattle.std.proofs.lemmas.Nat.Bits.{bit_at-zero}
use lib.Lanes.{zip2, mask_l, top}

-- the byte of a test: all ones where it holds, and 0 where it doesn't
abbrev pub flag : Bool → ℕ
flag b = cond b 255 0

top_flag : (b : Bool) → top 7 (flag b) ≡ b
top_flag true = refl
top_flag false = refl

-- n lanes, by what each of them is
pub record AreLanes (n : ℕ) (v : List ℕ) (lane : ℕ → ℕ) : Type 0 where
  pub len : length v ≡ n
  pub lanes : (j : ℕ) → j < n → get_or v j 0 ≡ lane j

-- n flags, by the test of each
abbrev pub AreFlags : ℕ → List ℕ → (ℕ → Bool) → Type 0
AreFlags n v test = AreLanes n v (λ j. flag (test j))

-- a vector with n bytes has n lanes, each of which is what it holds
pub lanes_given : (n : ℕ) (v : List ℕ) → length v ≡ n → AreLanes n v (λ j. get_or v j 0)
lanes_given n v long = record { len = long; lanes = (λ j l. refl) }

-- a vector of one number n times has it in each of n lanes
pub splat : (n y : ℕ) → AreLanes n (replicate n y) (λ j. y)
splat n y = record { len = length-replicate n y; lanes = (λ j l. get_or-replicate n j y 0 l) }

module _ (n : ℕ) where
  -- a function taken lane by lane of two vectors gives in each lane what it gives of the two lanes
  pub lane_by_lane : (f : ℕ → ℕ → ℕ) (xs ys : List ℕ) {a b : ℕ → ℕ} → AreLanes n xs a → AreLanes n ys b → AreLanes n (zip2 f xs ys) (λ j. f (a j) (b j))
  lane_by_lane f xs ys is_a is_b = record {
    len = length-zip2 f xs ys (is_a.len ∙ sym is_b.len) ∙ is_a.len;
    lanes = (λ j l. get_or-zip2 f xs ys j 0 0 0 (let e = is_a.len in omega arith) (let e = is_b.len in omega arith)
        ∙ (λ i. f (is_a.lanes j l i) (is_b.lanes j l i)));
  }

  -- a comparison that gives flags, taken lane by lane, gives the flags of the test of both lanes
  pub compared : (f : ℕ → ℕ → ℕ) (test : ℕ → ℕ → Bool) (xs ys : List ℕ) {a b : ℕ → ℕ} → ((x y : ℕ) → f x y ≡ flag (test x y)) → AreLanes n xs a
      → AreLanes n ys b → AreFlags n (zip2 f xs ys) (λ j. test (a j) (b j))
  compared f test xs ys {a = a} {b = b} is is_a is_b =
      let both = lane_by_lane f xs ys is_a is_b in
      record { len = both.len; lanes = (λ j l. both.lanes j l ∙ is (a j) (b j)) }

  -- flags that are joined lane by lane are those of the joined tests
  pub joined : (f : ℕ → ℕ → ℕ) (op : Bool → Bool → Bool) (us vs : List ℕ) (p q : ℕ → Bool) → ((x y : Bool) → f (flag x) (flag y) ≡ flag (op x y))
      → AreFlags n us p → AreFlags n vs q → AreFlags n (zip2 f us vs) (λ j. op (p j) (q j))
  joined f op us vs p q is is_p is_q =
      let both = lane_by_lane f us vs is_p is_q in
      record { len = both.len; lanes = (λ j l. both.lanes j l ∙ is (p j) (q j)) }

  -- flags that are turned over are those of the tests that don't hold
  pub turned : (f : ℕ → ℕ) (us : List ℕ) (p : ℕ → Bool) → ((x : Bool) → f (flag x) ≡ flag (not x)) → AreFlags n us p → AreFlags n (map f us) (λ j. not (p j))
  turned f us p is is_p = record {
    len = length-map us f ∙ is_p.len;
    lanes = (λ j l. get_or-map f us j 0 0 (let e = is_p.len in omega arith) ∙ ap f (is_p.lanes j l) ∙ is (p j));
  }

  -- the bits of flags
  module _ (v : List ℕ) (test : ℕ → Bool) (few : n ≤ 64) (flags : AreFlags n v test) where
    abbrev bits : ℕ
    bits = mask_l (map (top 7) v) % 2 ^ 64

    long : length (map (top 7) v) ≡ n
    long = length-map v (top 7) ∙ flags.len

    whole : bits ≡ mask_l (map (top 7) v)
    whole = mask_l-mod (map (top 7) v) 64 (let e = long in omega arith)

    -- the bits of n flags are a number below 2 to the n
    pub bits_fit : bits < 2 ^ n
    bits_fit = subst (λ m. m < 2 ^ n) (sym whole) (subst (λ k. mask_l (map (top 7) v) < 2 ^ k) long (mask_l-lt (map (top 7) v)))

    -- the bit of a lane is 1 where its test holds, and 0 elsewhere
    pub bit_is : (i : ℕ) → i < n → bit_at bits i ≡ cond (test i) 1 0
    bit_is i l =
        ap (λ m. bit_at m i) whole ∙ bit_mask_l (map (top 7) v) i ∙
        ap (λ b. cond b 1 0) (get_or-map (top 7) v i 0 false (let e = flags.len in omega arith) ∙ ap (top 7) (flags.lanes i l) ∙ top_flag (test i))

-- ---- where two vectors of masks differ

abbrev differ : ℕ → ℕ → Bool
differ a b = not (eqb a b)

none_set : (xs ys : List ℕ) → length xs ≡ length ys → ((i : ℕ) → i < length xs → get_or xs i 0 ≡ get_or ys i 0) → mask_l (zip2 differ xs ys) ≡ 0
none_set [] ys e h = refl
none_set (x ∷ xs) [] e h = absurd (omega arith)
none_set (x ∷ xs) (y ∷ ys) e h =
    let rest = none_set xs ys (omega arith) (λ i l. h (suc i) (omega arith)) in
    let here : eqb x y ≡ true = eq-eqb x y (h 0 (omega arith)) in
    ap (λ t. cond (not t) 1 0 + 2 * mask_l (zip2 differ xs ys)) here ∙ omega arith

module _ (n : ℕ) (xs ys : List ℕ) (few : n ≤ 64) (xs_long : length xs ≡ n) (ys_long : length ys ≡ n) where
  -- the bits of the lanes in which two vectors of masks differ, as a number
  abbrev pub differences : ℕ
  differences = mask_l (map (top 31) (zip2 (λ a b. cond (not (eqb a b)) (2 ^ 32 - 1) 0) xs ys)) % 2 ^ 64

  same_length : length xs ≡ length ys
  same_length = xs_long ∙ sym ys_long

  are_differences : differences ≡ mask_l (zip2 differ xs ys)
  are_differences =
      let long = length-zip2 differ xs ys same_length in
      ap (λ ms. mask_l ms % 2 ^ 64) (tops_compared w32 differ xs ys) ∙ mask_l-mod (zip2 differ xs ys) 64 (omega arith)

  -- where no bit of the differences is set, two vectors have the same masks in all lanes
  pub none_differs : differences ≡ 0 → (i : ℕ) → i < n → get_or xs i 0 ≡ get_or ys i 0
  none_differs none i l = by (eqb (get_or xs i 0) (get_or ys i 0)) refl
    where
      bit : ◌≡◌ {A = ℕ} (cond (differ (get_or xs i 0) (get_or ys i 0)) 1 0) 0
      bit =
          ap (λ t. cond t 1 0) (sym (get_or-zip2 differ xs ys i 0 0 false (omega arith) (omega arith))) ∙ sym (bit_mask_l (zip2 differ xs ys) i) ∙
          ap (λ m. bit_at m i) (sym are_differences ∙ none) ∙
          bit_at-zero i

      by : (t : Bool) → eqb (get_or xs i 0) (get_or ys i 0) ≡ t → get_or xs i 0 ≡ get_or ys i 0
      by true e = eqb-true (get_or xs i 0) (get_or ys i 0) e
      by false e = absurd (let one : ◌≡◌ {A = ℕ} 1 0 = ap (λ t. cond (not t) 1 0) (sym e) ∙ bit in omega arith)

  -- two vectors with the same masks in all lanes have no bit of difference
  pub all_same : ((i : ℕ) → i < n → get_or xs i 0 ≡ get_or ys i 0) → differences ≡ 0
  all_same h = are_differences ∙ none_set xs ys same_length (λ i l. h i (omega arith))
