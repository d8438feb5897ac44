-- The local rule as a test, and in the places of a column.
use Rattle.std.proofs.Common.{◌≡◌, ℕ, ◌+◌, ◌-◌, ◌%◌, ◌^◌, ◌<◌, ◌≤◌, ◌⊎◌, inl, inr, Bool, true, false, not, ◌&&◌, ◌||◌, cond, eqb, ltb, eqb-true}
use Rattle.std.proofs.Common.{eq-eqb, ltb-true, lt-ltb, List, map, length, get_or, replicate, bit_and, bit_or, refl, sym, ap, ◌∙◌, subst, arith, w64}
use Rattle.std.specs.Int.{bit_at, trailing_zeros}
use Rattle.std.proofs.lemmas.Bool.{and_parts, and_from, cases_lt}
use Rattle.std.proofs.lemmas.Nat.Bits.{bit_at-trailing_zeros}
use Rattle.std.proofs.lemmas.Simd.{get_or-chunk}
use lib.Lanes.{chunk, zip2}
use Rattle.puz_board.proofs.BitLemmas.{in_below}
use Rattle.tab_lanes.proofs.FlagLemmas.{AreFlags, flag, lanes_given, splat, lane_by_lane, compared, joined, turned}
use Rattle.tab_file.specs.EntryRules.{KeepsRuleOfKind, no_region, goal, one_more, never}
use Rattle.tab_lanes.specs.LocalRule.{KeepsRuleAt, KeepRuleBetween}

-- the rule as the vectors test it, for a slot of the last kind, and for any
abbrev pub keeps_other : ℕ → ℕ → ℕ → Bool
keeps_other k m e = eqb k 2 && ((ltb m 253 && eqb e ((m + 1) % 2 ^ 8)) || (eqb m 255 && eqb e 255))

-- the local rule as a test of a kind, the least near entry and an entry
abbrev pub keeps : ℕ → ℕ → ℕ → Bool
keeps k m e = ((eqb k 0 && eqb e 254) || (eqb k 1 && eqb e 0)) || keeps_other k m e

one_holds : (a b : Bool) → (a || b) ≡ true → (a ≡ true) ⊎ (b ≡ true)
one_holds true b h = inl refl
one_holds false b h = inr h

holds_left : (a b : Bool) → a ≡ true → (a || b) ≡ true
holds_left a b h = ap (λ t. t || b) h

holds_right : (a b : Bool) → b ≡ true → (a || b) ≡ true
holds_right true b h = refl
holds_right false b h = h

module _ (k m e : ℕ) where
  abbrev first_case : Bool
  first_case = eqb k 0 && eqb e 254

  abbrev second_case : Bool
  second_case = eqb k 1 && eqb e 0

  abbrev third_case : Bool
  third_case = ltb m 253 && eqb e ((m + 1) % 2 ^ 8)

  abbrev fourth_case : Bool
  fourth_case = eqb m 255 && eqb e 255

  other_kept : (eqb k 2 && (third_case || fourth_case)) ≡ true → KeepsRuleOfKind k m e
  other_kept h =
      let parts = and_parts (eqb k 2) (third_case || fourth_case) h in
      let kind = eqb-true k 2 parts.0 in
      elim (one_holds third_case fourth_case parts.1) [
        | inl t ↦
            let both = and_parts (ltb m 253) (eqb e ((m + 1) % 2 ^ 8)) t in
            let low = ltb-true m 253 both.0 in
            let is = eqb-true e ((m + 1) % 2 ^ 8) both.1 in
            one_more kind low (omega arith)
        | inr t ↦ (let both = and_parts (eqb m 255) (eqb e 255) t in never kind (eqb-true m 255 both.0) (eqb-true e 255 both.1))
      ]

  kept : keeps k m e ≡ true → KeepsRuleOfKind k m e
  kept h = elim (one_holds (first_case || second_case) (eqb k 2 && (third_case || fourth_case)) h) [
    | inl t ↦ elim (one_holds first_case second_case t) [
      | inl s ↦ (let both = and_parts (eqb k 0) (eqb e 254) s in no_region (eqb-true k 0 both.0) (eqb-true e 254 both.1))
      | inr s ↦ (let both = and_parts (eqb k 1) (eqb e 0) s in goal (eqb-true k 1 both.0) (eqb-true e 0 both.1))
    ]
    | inr t ↦ other_kept t
  ]

  passes : KeepsRuleOfKind k m e → keeps k m e ≡ true
  passes (no_region kind entry) =
      holds_left (first_case || second_case) (eqb k 2 && (third_case || fourth_case)) (
      holds_left first_case second_case (and_from (eqb k 0) (eqb e 254) (eq-eqb k 0 kind) (eq-eqb e 254 entry)))
  passes (goal kind entry) =
      holds_left (first_case || second_case) (eqb k 2 && (third_case || fourth_case)) (
      holds_right first_case second_case (and_from (eqb k 1) (eqb e 0) (eq-eqb k 1 kind) (eq-eqb e 0 entry)))
  passes (one_more kind low entry) =
      holds_right (first_case || second_case) (eqb k 2 && (third_case || fourth_case)) (
      and_from (eqb k 2) (third_case || fourth_case) (eq-eqb k 2 kind) (
      holds_left third_case fourth_case (and_from (ltb m 253) (eqb e ((m + 1) % 2 ^ 8)) (lt-ltb m 253 low) (eq-eqb e ((m + 1) % 2 ^ 8) (omega arith)))))
  passes (never kind least entry) =
      holds_right (first_case || second_case) (eqb k 2 && (third_case || fourth_case)) (
      and_from (eqb k 2) (third_case || fourth_case) (eq-eqb k 2 kind) (
      holds_right third_case fourth_case (and_from (eqb m 255) (eqb e 255) (eq-eqb m 255 least) (eq-eqb e 255 entry))))

  -- from a bit that is set where the test fails
  pub rule_kept : (bit : ℕ) → bit ≡ cond (not (keeps k m e)) 1 0 → bit ≡ 0 → KeepsRuleOfKind k m e
  rule_kept bit is none = by (keeps k m e) refl
    where
      by : (t : Bool) → keeps k m e ≡ t → KeepsRuleOfKind k m e
      by true h = kept h
      by false h = absurd (let set = is ∙ ap (λ t. cond (not t) 1 0) h in omega arith)

  -- a bit that is set where the test fails says that the rule is broken
  pub rule_broken : (bit : ℕ) → bit ≡ cond (not (keeps k m e)) 1 0 → bit ≡ 1 → ¬ KeepsRuleOfKind k m e
  rule_broken bit is some rule = let none = is ∙ ap (λ t. cond (not t) 1 0) (passes rule) in omega arith

-- ---- the test in vectors

module _ (n : ℕ) where
  abbrev equal_lanes : List ℕ → ℕ → List ℕ
  equal_lanes xs y = zip2 (λ a b. cond (eqb a b) 255 0) xs (replicate n y)

  abbrev next_lanes : List ℕ → List ℕ
  next_lanes mins = zip2 (λ a b. (a + b) % 2 ^ 8) mins (replicate n 1)

  abbrev one_more_lanes : List ℕ → List ℕ → List ℕ
  one_more_lanes entries mins =
      zip2 bit_and (zip2 (λ a b. cond (ltb a b) 255 0) mins (replicate n 253)) (zip2 (λ a b. cond (eqb a b) 255 0) entries (next_lanes mins))

  abbrev other_lanes : List ℕ → List ℕ → List ℕ → List ℕ
  other_lanes entries mins kinds =
      zip2 bit_and (equal_lanes kinds 2) (zip2 bit_or (one_more_lanes entries mins) (zip2 bit_and (equal_lanes mins 255) (equal_lanes entries 255)))

  abbrev kept_lanes : List ℕ → List ℕ → List ℕ → List ℕ
  kept_lanes entries mins kinds =
      zip2 bit_or
      (zip2 bit_or (zip2 bit_and (equal_lanes kinds 0) (equal_lanes entries 254)) (zip2 bit_and (equal_lanes kinds 1) (equal_lanes entries 0)))
      (other_lanes entries mins kinds)

  both : (x y : Bool) → bit_and (flag x) (flag y) ≡ flag (x && y)
  both true true = refl
  both true false = refl
  both false true = refl
  both false false = refl

  either : (x y : Bool) → bit_or (flag x) (flag y) ≡ flag (x || y)
  either true true = refl
  either true false = refl
  either false true = refl
  either false false = refl

  neither : (x : Bool) → 2 ^ 8 - 1 - flag x ≡ flag (not x)
  neither true = refl
  neither false = refl

  module _ (entries mins kinds : List ℕ) (es : length entries ≡ n) (ms : length mins ≡ n) (ks : length kinds ≡ n) where
    equal : (xs : List ℕ) (y : ℕ) → length xs ≡ n → AreFlags n (equal_lanes xs y) (λ j. eqb (get_or xs j 0) y)
    equal xs y long = compared n (λ a b. cond (eqb a b) 255 0) eqb xs (replicate n y) (λ a b. refl) (lanes_given n xs long) (splat n y)

    next_is : AreFlags n (zip2 (λ a b. cond (eqb a b) 255 0) entries (next_lanes mins)) (λ j. eqb (get_or entries j 0) ((get_or mins j 0 + 1) % 2 ^ 8))
    next_is =
        compared n (λ a b. cond (eqb a b) 255 0) eqb entries (next_lanes mins) (λ a b. refl) (lanes_given n entries es)
        (lane_by_lane n (λ a b. (a + b) % 2 ^ 8) mins (replicate n 1) (lanes_given n mins ms) (splat n 1))

    low : AreFlags n (zip2 (λ a b. cond (ltb a b) 255 0) mins (replicate n 253)) (λ j. ltb (get_or mins j 0) 253)
    low = compared n (λ a b. cond (ltb a b) 255 0) ltb mins (replicate n 253) (λ a b. refl) (lanes_given n mins ms) (splat n 253)

    others : AreFlags n (other_lanes entries mins kinds) (λ j. keeps_other (get_or kinds j 0) (get_or mins j 0) (get_or entries j 0))
    others =
        joined n bit_and (λ x y. x && y) _ _ _ _ both (equal kinds 2 ks) (
        joined n bit_or (λ x y. x || y) _ _ _ _ either (joined n bit_and (λ x y. x && y) _ _ _ _ both low next_is) (
        joined n bit_and (λ x y. x && y) _ _ _ _ both (equal mins 255 ms) (equal entries 255 es)))

    -- the flags that the vectors give, turned over, are those of the entries that break the rule
    pub bad_flags : AreFlags n (map (λ x. 2 ^ 8 - 1 - x) (kept_lanes entries mins kinds))
        (λ j. not (keeps (get_or kinds j 0) (get_or mins j 0) (get_or entries j 0)))
    bad_flags =
        turned n (λ x. 2 ^ 8 - 1 - x) _ _ neither (
        joined n bit_or (λ x y. x || y) _ _ _ _ either (
        joined n bit_or (λ x y. x || y) _ _ _ _ either (joined n bit_and (λ x y. x && y) _ _ _ _ both (equal kinds 0 ks) (equal entries 254 es))
        (joined n bit_and (λ x y. x && y) _ _ _ _ both (equal kinds 1 ks) (equal entries 0 es))) others)

-- ---- n places of a column, with a bit for each

module _ (entries mins kinds : List ℕ) (from at n bits : ℕ) (so_far : KeepRuleBetween entries mins kinds from at) where
  in_place : (j : ℕ) → j < n → KeepsRuleAt (chunk at n entries) (chunk at n mins) (chunk at n kinds) j ≡ KeepsRuleAt entries mins kinds (at + j)
  in_place j l i = KeepsRuleOfKind (get_or-chunk at n kinds j 0 l i) (get_or-chunk at n mins j 0 l i) (get_or-chunk at n entries j 0 l i)

  module _ (kept_lane : (j : ℕ) → j < n → bit_at bits j ≡ 0 → KeepsRuleAt (chunk at n entries) (chunk at n mins) (chunk at n kinds) j) where
    -- lanes whose bits aren't set make the entries keep the rule so many places further
    pub kept_up_to : (m : ℕ) → m ≤ n → ((j : ℕ) → j < m → bit_at bits j ≡ 0) → KeepRuleBetween entries mins kinds from (at + m)
    kept_up_to m few none i low high = elim (cases_lt i at) [
      | inl before ↦ so_far i low before
      | inr behind ↦
          let inside : i - at < m = omega arith in
          let here : at + (i - at) ≡ i = omega arith in
          let l : i - at < n = omega arith in
          subst (λ k. KeepsRuleAt entries mins kinds k) here (subst (λ R. R) (in_place (i - at) l) (kept_lane (i - at) l (none (i - at) inside)))
    ]

  -- the lowest bit that is set
  module _ (fits : bits < 2 ^ n) (small : bits < 2 ^ 64) (some : 0 < bits) where
    -- the lowest bit that is set is that of one of the n lanes
    pub lowest_inside : trailing_zeros w64 bits < n
    lowest_inside = in_below bits n (trailing_zeros w64 bits) fits (bit_at-trailing_zeros w64 bits some small).1

    -- no bit below the lowest one that is set is set
    pub none_below : (j : ℕ) → j < trailing_zeros w64 bits → bit_at bits j ≡ 0
    none_below = (bit_at-trailing_zeros w64 bits some small).2

    -- the entry at the lowest bit that is set breaks the rule
    pub lowest_broken : ((j : ℕ) → j < n → bit_at bits j ≡ 1 → ¬ KeepsRuleAt (chunk at n entries) (chunk at n mins) (chunk at n kinds) j)
        → ¬ KeepsRuleAt entries mins kinds (at + trailing_zeros w64 bits)
    lowest_broken broken rule =
        let j = trailing_zeros w64 bits in
        broken j lowest_inside (bit_at-trailing_zeros w64 bits some small).1 (subst (λ R. R) (sym (in_place j lowest_inside)) rule)
