-- The slots of one placement by the masks of its regions.
use Rattle.std.proofs.Common.{◌≡◌, ℕ, List, inl, inr, sym, ◌∙◌, ap, arith}
use Rattle.std.specs.Int.{bit_at}
use Rattle.std.proofs.lemmas.Nat.Bits.{bit_at-lt, bit_at-zero, same_from_bits}
use Rattle.pat_place.specs.Patterns.{ShownPattern, IsPattern}
use Rattle.tab_columns.specs.Columns.{IsKindByMask, no_region as by_none, goal as by_goal, other as by_other}
use Rattle.tab_rule.specs.Entries.{HasNoRegion, HasRegion}
use Rattle.tab_rule.specs.LocalRule.{IsGoalSlot, IsKindOf, no_region, goal, other}
use Rattle.tab_columns.specs.Moves.{IsRegion}
use Rattle.tab_rule.proofs.EntryLemmas.{region_cases}

-- a slot without a region has the empty mask
pub empty_region : (n : ℕ) (cells : List ℕ) (j : ℕ) → HasNoRegion n cells j → IsRegion n cells j 0
empty_region n cells j none c = (λ one. absurd (let z = bit_at-zero c in omega arith), λ is. absurd (none c is))

-- ---- the kind of a slot by the mask of its region

module _ (p : ShownPattern) (pat : IsPattern p) (cells : List ℕ) (j mask : ℕ) (is : IsRegion p.side cells j mask) where
  none_of_zero : mask ≡ 0 → HasNoRegion p.side cells j
  none_of_zero zero c slot = let one = (is c).1 slot in let z = ap (λ m. bit_at m c) zero ∙ bit_at-zero c in omega arith

  some_of_mask : (mask ≡ 0 → ⊥) → HasRegion p.side cells j
  some_of_mask some = elim (region_cases p pat cells j) [
    | inl has ↦ has
    | inr none ↦ absurd (some (same_from_bits mask 0 (λ c. low c (λ one. none c ((is c).0 one)) ∙ sym (bit_at-zero c))))
  ]
    where
      low : (c : ℕ) → (bit_at mask c ≡ 1 → ⊥) → bit_at mask c ≡ 0
      low c far = let l = bit_at-lt mask c in omega arith

  -- the kind that the mask of a slot's region gives is the slot's kind
  pub kind_of_mask : (IsGoal : Type 0) → (IsGoal → IsGoalSlot p cells j) → (IsGoalSlot p cells j → IsGoal) → (kind : ℕ)
      → IsKindByMask mask IsGoal kind → IsKindOf p cells j kind
  kind_of_mask IsGoal to back kind (by_none zero kinds) = no_region (none_of_zero zero) kinds
  kind_of_mask IsGoal to back kind (by_goal some home kinds) = goal (to home) kinds
  kind_of_mask IsGoal to back kind (by_other some far kinds) = other (some_of_mask some) (λ home. far (back home)) kinds

-- whether a slot is the goal's, said in other words
pub kind_same : (mask kind : ℕ) (A B : Type 0) → (A → B) → (B → A) → IsKindByMask mask A kind → IsKindByMask mask B kind
kind_same mask kind A B to back (by_none zero kinds) = by_none zero kinds
kind_same mask kind A B to back (by_goal some home kinds) = by_goal some (to home) kinds
kind_same mask kind A B to back (by_other some far kinds) = by_other some (λ b. far (back b)) kinds
