-- The local rule by the four cases of an entry, and by the numbers that it is of.
use Rattle.std.proofs.Common.{◌≡◌, ℕ, suc, ◌<◌, ◌≤◌, List, inl, inr, subst, arith, refl}
use Rattle.std.specs.Prelude.{◌↔◌}
use Rattle.std.proofs.lemmas.Bool.{cases_eq, cases_lt}
use Rattle.pat_place.specs.Patterns.{ShownPattern, IsPattern}
use Rattle.pat_place.proofs.JoinLemmas.{Decided}
use Rattle.tab_file.specs.EntryRules.{KeepsRuleOfKind, no_region as by_no_region, goal as by_goal, one_more as by_one_more, never as by_never}
use Rattle.tab_file.specs.Tables.{Table}
use Rattle.tab_rule.specs.Entries.{HasNoRegion, HasRegion}
use Rattle.tab_rule.specs.LocalRule.{IsGoalSlot, IsKindOf, IsLeastNear, IsLeastOf, IsNearEntry, LocalRule, no_region as of_no_region, goal as of_goal}
use Rattle.tab_rule.specs.LocalRule.{other as of_other}
use Rattle.tab_rule.proofs.MoveLemmas.{IsLeastOf-none}
use Rattle.tab_rule.proofs.NearestLemmas.{least_near_some}
use Rattle.tab_rule.proofs.Values.{IsPlaced}

-- the least number is one alone
pub IsLeastOf-only : (Has : ℕ → Type 0) (m k : ℕ) → IsLeastOf Has m → IsLeastOf Has k → m ≡ k
IsLeastOf-only Has m k is also = let a = low m k is also in let b = low k m also is in omega arith
  where
    low : (m k : ℕ) → IsLeastOf Has m → IsLeastOf Has k → m ≤ k
    low m k is also = elim also.reached [ inl full ↦ (let l = is.most in omega arith) | inr h ↦ is.least k h ]

-- a slot has one kind
pub kind_one : (p : ShownPattern) (cells : List ℕ) (j k l : ℕ) → IsKindOf p cells j k → IsKindOf p cells j l → k ≡ l
kind_one p cells j k l (of_no_region none is) (of_no_region also other) = omega arith
kind_one p cells j k l (of_no_region none is) (of_goal home other) = absurd (none 0 home.1)
kind_one p cells j k l (of_no_region none is) (of_other has away other) = absurd (none has.cell has.in_slot)
kind_one p cells j k l (of_goal home is) (of_no_region none other) = absurd (none 0 home.1)
kind_one p cells j k l (of_goal home is) (of_goal also other) = omega arith
kind_one p cells j k l (of_goal home is) (of_other has away other) = absurd (away home)
kind_one p cells j k l (of_other has away is) (of_no_region none other) = absurd (none has.cell has.in_slot)
kind_one p cells j k l (of_other has away is) (of_goal home other) = absurd (away home)
kind_one p cells j k l (of_other has away is) (of_other also far other) = omega arith

-- no entry is one move away from a slot without a region
pub none_near_nothing : (t : Table) (cells : List ℕ) (j : ℕ) → HasNoRegion t.pattern.side cells j → IsLeastNear t cells j 255
none_near_nothing t cells j none = IsLeastOf-none (IsNearEntry t cells j) (λ e near. none near.to near.moves.in_slot)

module _ (t : Table) (cells : List ℕ) (j e : ℕ) where
  -- the rule by the numbers of the slot
  pub rule_by_numbers : (kind least : ℕ) → IsKindOf t.pattern cells j kind → IsLeastNear t cells j least → KeepsRuleOfKind kind least e ↔ LocalRule t cells j e
  rule_by_numbers kind least is_kind is_least = (
    λ keeps. record { kind = kind; is_kind = is_kind; least = least; is_least = is_least; keeps = keeps },
    λ rule. subst (λ k. KeepsRuleOfKind k least e) (kind_one t.pattern cells j rule.kind kind rule.is_kind is_kind) (
        subst (λ m. KeepsRuleOfKind rule.kind m e) (IsLeastOf-only (IsNearEntry t cells j) rule.least least rule.is_least is_least) rule.keeps),
  )

  -- the four cases
  pub data RuleCase : Type 0 where
    no_region : HasNoRegion t.pattern.side cells j → e ≡ 254 → RuleCase
    goal : IsGoalSlot t.pattern cells j → e ≡ 0 → RuleCase
    one_more : (m : ℕ) → HasRegion t.pattern.side cells j → ¬ IsGoalSlot t.pattern cells j → IsLeastNear t cells j m → m < 253 → e ≡ suc m → RuleCase
    never : HasRegion t.pattern.side cells j → ¬ IsGoalSlot t.pattern cells j → IsLeastNear t cells j 255 → e ≡ 255 → RuleCase

  case_of : (kind least : ℕ) → IsKindOf t.pattern cells j kind → IsLeastNear t cells j least → KeepsRuleOfKind kind least e → RuleCase
  case_of kind least (of_no_region none is) near (by_no_region zero full) = no_region none full
  case_of kind least (of_no_region none is) near (by_goal one zero) = absurd (omega arith)
  case_of kind least (of_no_region none is) near (by_one_more two small more) = absurd (omega arith)
  case_of kind least (of_no_region none is) near (by_never two full also) = absurd (omega arith)
  case_of kind least (of_goal home is) near (by_no_region zero full) = absurd (omega arith)
  case_of kind least (of_goal home is) near (by_goal one zero) = goal home zero
  case_of kind least (of_goal home is) near (by_one_more two small more) = absurd (omega arith)
  case_of kind least (of_goal home is) near (by_never two full also) = absurd (omega arith)
  case_of kind least (of_other has away is) near (by_no_region zero full) = absurd (omega arith)
  case_of kind least (of_other has away is) near (by_goal one zero) = absurd (omega arith)
  case_of kind least (of_other has away is) near (by_one_more two small more) = one_more least has away near small more
  case_of kind least (of_other has away is) near (by_never two full also) = never has away (subst (IsLeastNear t cells j) full near) also

  -- an entry that keeps the local rule is of one of the four cases
  pub rule_cases : LocalRule t cells j e → RuleCase
  rule_cases rule = case_of rule.kind rule.least rule.is_kind rule.is_least rule.keeps

  -- an entry of a placement that is of one of the four cases keeps the local rule
  pub rule_of_case : IsPattern t.pattern → IsPlaced t.pattern cells → RuleCase → LocalRule t cells j e
  rule_of_case pat place (no_region none full) = record {
    kind = 0;
    is_kind = of_no_region none refl;
    least = 255;
    is_least = none_near_nothing t cells j none;
    keeps = by_no_region refl full;
  }
  rule_of_case pat place (goal home zero) =
      let m = least_near_some t pat cells place j (record { cell = 0; in_slot = home.1 }) in
      record { kind = 1; is_kind = of_goal home refl; least = m.0; is_least = m.1; keeps = by_goal refl zero }
  rule_of_case pat place (one_more m has away near small more) =
      record { kind = 2; is_kind = of_other has away refl; least = m; is_least = near; keeps = by_one_more refl small more }
  rule_of_case pat place (never has away near full) =
      record { kind = 2; is_kind = of_other has away refl; least = 255; is_least = near; keeps = by_never refl refl full }

-- ---- the rule by numbers can be told

-- whether an entry keeps the rule by its kind and its least near entry can be decided
pub keeps_decided : (kind least e : ℕ) → Decided (KeepsRuleOfKind kind least e)
keeps_decided kind least e = elim (cases_eq kind 0) [
  | inl zero ↦ elim (cases_eq e 254) [ inl full ↦ inl (by_no_region zero full) | inr bad ↦ inr (not_empty zero bad) ]
  | inr some ↦ elim (cases_eq kind 1) [
    | inl one ↦ elim (cases_eq e 0) [ inl zero ↦ inl (by_goal one zero) | inr bad ↦ inr (not_goal one bad) ]
    | inr more ↦ elim (cases_eq kind 2) [
      | inr none ↦ inr (not_kind some more none)
      | inl two ↦ elim (cases_lt least 253) [
        | inl small ↦ elim (cases_eq e (suc least)) [ inl same ↦ inl (by_one_more two small same) | inr bad ↦ inr (not_more two small bad) ]
        | inr large ↦ elim (cases_eq least 255) [
          | inr other ↦ inr (not_never two large (λ a b. other a))
          | inl full ↦ elim (cases_eq e 255) [ inl same ↦ inl (by_never two full same) | inr bad ↦ inr (not_never two large (λ a b. bad b)) ]
        ]
      ]
    ]
  ]
]
  where
    not_empty : kind ≡ 0 → (e ≡ 254 → ⊥) → KeepsRuleOfKind kind least e → ⊥
    not_empty zero bad (by_no_region k full) = bad full
    not_empty zero bad (by_goal k is) = omega arith
    not_empty zero bad (by_one_more k small is) = omega arith
    not_empty zero bad (by_never k full is) = omega arith

    not_goal : kind ≡ 1 → (e ≡ 0 → ⊥) → KeepsRuleOfKind kind least e → ⊥
    not_goal one bad (by_no_region k full) = omega arith
    not_goal one bad (by_goal k is) = bad is
    not_goal one bad (by_one_more k small is) = omega arith
    not_goal one bad (by_never k full is) = omega arith

    not_kind : (kind ≡ 0 → ⊥) → (kind ≡ 1 → ⊥) → (kind ≡ 2 → ⊥) → KeepsRuleOfKind kind least e → ⊥
    not_kind some more none (by_no_region k full) = some k
    not_kind some more none (by_goal k is) = more k
    not_kind some more none (by_one_more k small is) = none k
    not_kind some more none (by_never k full is) = none k

    not_more : kind ≡ 2 → least < 253 → (e ≡ suc least → ⊥) → KeepsRuleOfKind kind least e → ⊥
    not_more two small bad (by_no_region k full) = omega arith
    not_more two small bad (by_goal k is) = omega arith
    not_more two small bad (by_one_more k low is) = bad is
    not_more two small bad (by_never k full is) = omega arith

    not_never : kind ≡ 2 → 253 ≤ least → (least ≡ 255 → e ≡ 255 → ⊥) → KeepsRuleOfKind kind least e → ⊥
    not_never two large bad (by_no_region k full) = omega arith
    not_never two large bad (by_goal k is) = omega arith
    not_never two large bad (by_one_more k low is) = omega arith
    not_never two large bad (by_never k full is) = bad full is
