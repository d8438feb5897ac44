-- Whether an entry keeps the local rule can be told.
use Rattle.std.proofs.Common.{ℕ, List, inl, inr, refl}
use Rattle.pat_place.specs.Patterns.{IsPattern}
use Rattle.pat_place.proofs.JoinLemmas.{Decided}
use Rattle.tab_file.specs.Tables.{Table}
use Rattle.tab_rule.specs.LocalRule.{IsKindOf, IsLeastNear, LocalRule, no_region, goal, other}
use Rattle.tab_rule.proofs.CaseLemmas.{keeps_decided, none_near_nothing, rule_by_numbers}
use Rattle.tab_rule.proofs.EntryLemmas.{region_cases}
use Rattle.tab_rule.proofs.NearestLemmas.{least_near_some}
use Rattle.tab_rule.proofs.RuleLemmas.{region_from_slot, slot_from_region}
use Rattle.tab_rule.proofs.ValueLemmas.{goal_decided}
use Rattle.tab_rule.proofs.Values.{IsPlaced}

module _ (t : Table) (pat : IsPattern t.pattern) (cells : List ℕ) (j : ℕ) (place : IsPlaced t.pattern cells) where
  -- each slot has a kind and a least entry one move away
  numbers_some : (kind : ℕ) × (least : ℕ) × IsKindOf t.pattern cells j kind × IsLeastNear t cells j least
  numbers_some = elim (region_cases t.pattern pat cells j) [
    | inr none ↦ (0, 255, no_region none refl, none_near_nothing t cells j none)
    | inl has ↦
        let m = least_near_some t pat cells place j has in
        elim (goal_decided t.pattern cells has.cell) [
          | inl home ↦ (1, m.0, goal (slot_from_region t.pattern pat cells has.cell j has.in_slot home) refl, m.1)
          | inr far ↦ (2, m.0, other has (λ g. far (region_from_slot t.pattern pat cells has.cell j has.in_slot g)) refl, m.1)
        ]
  ]

-- whether the entry of a placement and a slot keeps the local rule can be decided
pub rule_decided : (t : Table) → IsPattern t.pattern → (cells : List ℕ) (j e : ℕ) → IsPlaced t.pattern cells → Decided (LocalRule t cells j e)
rule_decided t pat cells j e place =
    let n = numbers_some t pat cells j place in
    let by_numbers = rule_by_numbers t cells j e n.0 n.1 n.2 n.3 in
    elim (keeps_decided n.0 n.1 e) [ inl keeps ↦ inl (by_numbers.0 keeps) | inr breaks ↦ inr (λ rule. breaks (by_numbers.1 rule)) ]
