-- Tables that end at a count: an entry past it is that of boards that cost one more.
use Rattle.std.proofs.Common.{◌≡◌, ℕ, suc, ◌<◌, ◌≤◌, ◌⊎◌, List, inl, inr, refl, sym, ◌∙◌, subst, arith}
use Rattle.std.specs.Prelude.{◌↔◌, IfSome, slice_index}
use Rattle.std.proofs.lemmas.Bool.{cases_lt}
use Rattle.puz_board.specs.Boards.{blank}
use Rattle.puz_board.proofs.BoardWays.{State}
use Rattle.pat_place.specs.BoardLaws.{HasBoard}
use Rattle.pat_place.specs.Patterns.{ShownPattern, IsPattern}
use Rattle.pat_place.specs.Placements.{IsFree, placement_of}
use Rattle.pat_place.specs.Regions.{IsSlot}
use Rattle.pat_place.proofs.BoardOf.{board_of}
use Rattle.tab_file.specs.Tables.{Table, IsTable}
use Rattle.tab_file.specs.EntryRules.{KeepsRuleOfKind, no_region as by_no_region, goal as by_goal, one_more as by_one_more, never as by_never}
use Rattle.tab_rule.specs.Entries.{HasRegion, IsEntryAt}
use Rattle.tab_rule.specs.ExactTables.{AreExact}
use Rattle.tab_rule.specs.Limits.{EntryKeepsUpTo, HasBoardOfCost, IsPassed, IsPast, KeepsRuleUpTo, Ruled, no_region, goal, one_more, never, past}
use Rattle.tab_rule.specs.LocalRule.{IsGoalSlot, IsKindOf, IsLeastNear, IsNearEntry, no_region as of_no_region, goal as of_goal, other as of_other}
use Rattle.tab_rule.proofs.CaseLemmas.{IsLeastOf-only, kind_one}
use Rattle.tab_rule.proofs.EntryLemmas.{decode, decode_large, decode_small, entry_total, value, value-constant, value-is}
use Rattle.tab_rule.proofs.EntryNumberLemmas.{entry_placement}
use Rattle.tab_rule.proofs.NearLemmas.{IsFree-in, IsPlaced-in}
use Rattle.tab_rule.proofs.RuleLemmas.{slot_from_region, some_near, value_rule_at}
use Rattle.tab_rule.proofs.ValueLemmas.{IsPastValue, KeepsValueRuleUpTo, cost_past}
use Rattle.tab_rule.proofs.Values.{IsPlaced, table}

-- a slot of the last kind has a region, and isn't the goal's
other_kind : (p : ShownPattern) (cells : List ℕ) (j kind : ℕ) → IsKindOf p cells j kind → kind ≡ 2 → HasRegion p.side cells j × ¬ IsGoalSlot p cells j
other_kind p cells j kind (of_no_region none is) two = absurd (omega arith)
other_kind p cells j kind (of_goal home is) two = absurd (omega arith)
other_kind p cells j kind (of_other has far is) two = (has, far)

-- an entry that keeps the rule up to a count keeps the local rule, and is no greater count, or it is past the count
by_rule : (most kind least e : ℕ) → most ≤ 253 → KeepsRuleUpTo most kind least e → (KeepsRuleOfKind kind least e × (e < 254 → e ≤ most))
    ⊎ IsPast most kind least e
by_rule most kind least e few (no_region same is) = inl (by_no_region same is, λ l. absurd (omega arith))
by_rule most kind least e few (goal same is) = inl (by_goal same is, λ l. omega arith)
by_rule most kind least e few (one_more same small is) = inl (by_one_more same (omega arith) is, λ l. omega arith)
by_rule most kind least e few (never same full is) = inl (by_never same full is, λ l. absurd (omega arith))
by_rule most kind least e few (past is) = inr is

-- what holds of an entry by numbers of its slot holds of it
pub ruled_by_numbers : (Rule : ℕ → ℕ → ℕ → Type 0) (t : Table) (cells : List ℕ) (j e kind least : ℕ) → IsKindOf t.pattern cells j kind
    → IsLeastNear t cells j least → Rule kind least e ↔ Ruled Rule t cells j e
ruled_by_numbers Rule t cells j e kind least is_kind is_least = (
  λ holds. record { kind = kind; is_kind = is_kind; least = least; is_least = is_least; holds = holds },
  λ rule. subst (λ k. Rule k least e) (kind_one t.pattern cells j rule.kind kind rule.is_kind is_kind) (
      subst (λ m. Rule rule.kind m e) (IsLeastOf-only (IsNearEntry t cells j) rule.least least rule.is_least is_least) rule.holds),
)

few_decoded : (most e : ℕ) → (e < 254 → e ≤ most) → IfSome (decode e) (λ d. d ≤ most)
few_decoded most e few = elim (cases_lt e 254) [
  | inl l ↦ subst (λ x. IfSome x (λ d. d ≤ most)) (sym (decode_small e l)) (few l)
  | inr l ↦ subst (λ x. IfSome x (λ d. d ≤ most)) (sym (decode_large e l)) tt
]

module _ (p : ShownPattern) (pat : IsPattern p) (entries : List ℕ) (most : ℕ) (few : most ≤ 253) where
  abbrev IsPastHere : List ℕ → ℕ → Type 0
  IsPastHere = IsPastValue p pat (value p pat entries) (value-constant p pat entries) most

  abbrev KeepsHere : List ℕ → ℕ → Type 0
  KeepsHere = KeepsValueRuleUpTo p pat (value p pat entries) (value-constant p pat entries) most

  -- the value of an entry that is past the count
  past_value : (cells : List ℕ) (c j e : ℕ) → IsPlaced p cells → IsSlot p.side cells c j → IsEntryAt (table p entries) cells c e
      → Ruled (IsPast most) (table p entries) cells j e → IsPastHere cells c
  past_value cells c j e place is at_c rule =
      let far = (other_kind p cells j rule.kind rule.is_kind rule.holds.is_other).1 in
      let least : IsLeastNear (table p entries) cells j most = subst (IsLeastNear (table p entries) cells j) rule.holds.is_most rule.is_least in
      let full : e ≡ 255 = rule.holds.is_never in (
        λ g. far (slot_from_region p pat cells c j is g),
        value-is p pat entries cells c e place is.free at_c ∙ decode_large e (omega arith),
        some_near p pat entries cells c j most place is least (omega arith),
      )

  module _ (keeps : (number : ℕ) → EntryKeepsUpTo most (table p entries) number) where
    value_keeps : (cells : List ℕ) (c : ℕ) → IsPlaced p cells → IsFree p.side cells c → KeepsHere cells c
    value_keeps cells c place free = elim (by_rule most rule.kind rule.least e.0 few rule.holds) [
      | inl within ↦ inl (
        value_rule_at p pat entries cells c e.0 j place e.1 e.1.is_slot
            (record { kind = rule.kind; is_kind = rule.is_kind; least = rule.least; is_least = rule.is_least; keeps = within.0 }),
        subst (λ x. IfSome x (λ d. d ≤ most)) (sym (value-is p pat entries cells c e.0 place free e.1)) (few_decoded most e.0 within.1),
      )
      | inr beyond ↦ inr (past_value cells c j e.0 place e.1.is_slot e.1
          (record { kind = rule.kind; is_kind = rule.is_kind; least = rule.least; is_least = rule.is_least; holds = beyond }))
    ]
      where
        e : (e : ℕ) × IsEntryAt (table p entries) cells c e
        e = entry_total p pat entries cells c place free

        j : ℕ
        j = e.1.slot

        rule : Ruled (KeepsRuleUpTo most) (table p entries) cells j e.0
        rule = subst (Ruled (KeepsRuleUpTo most) (table p entries) cells j) e.1.holds (keeps e.1.number cells j e.1.is_number)

-- where a count is passed, some board costs one more
pub passed_board : (most : ℕ) → most ≤ 253 → (t : Table) → IsTable t → IsPassed most t → HasBoardOfCost t.pattern (suc most)
passed_board most few t is passed = record {
  board = has.board;
  is_board = has.is_board;
  costs = cost_past t.pattern is.pattern (value t.pattern is.pattern t.entries) (value-constant t.pattern is.pattern t.entries) most
      (value_keeps t.pattern is.pattern t.entries most few passed.keeps) has.board has.is_board
      (subst (IsPastHere t.pattern is.pattern t.entries most few (placement_of t.pattern.tiles has.board)) (sym has.blank_cell)
      (subst (λ q. IsPastHere t.pattern is.pattern t.entries most few q region.cell) (sym has.places) here));
}
  where
    cells : List ℕ
    cells = passed.past.cells

    place : IsPlaced t.pattern cells
    place = entry_placement passed.past.is_number

    region : HasRegion t.pattern.side cells passed.past.slot
    region = (other_kind t.pattern cells passed.past.slot passed.past.past.kind passed.past.past.is_kind passed.past.past.holds.is_other).0

    has : HasBoard (record { pattern = t.pattern; cells = cells }) region.cell
    has = board_of (record { pattern = t.pattern; cells = cells }) is.pattern place region.cell region.in_slot.free

    here : IsPastHere t.pattern is.pattern t.entries most few cells region.cell
    here = past_value t.pattern is.pattern t.entries most few cells region.cell passed.past.slot (slice_index t.entries passed.number) place region.in_slot
        (record { slot = passed.past.slot; is_slot = region.in_slot; number = passed.number; is_number = passed.past.is_number; holds = refl }) passed.past.past

-- an exact table has no board of a greater cost
pub no_greater_cost : (t : Table) → IsTable t → AreExact t → (d : ℕ) → HasBoardOfCost t.pattern d → d ≤ 253
no_greater_cost t is exact d has = elim ((exact cells e.1.slot e.1.number e.1.is_number).boards has.board has.is_board refl e.1.is_slot) [
  | inl says ↦
      let low : d ≤ slice_index t.entries e.1.number = subst (λ x. d ≤ x) says.1.costs (has.costs.least says.1.path says.1.leads) in
      let small : slice_index t.entries e.1.number ≤ 253 = says.0 in
      omega arith
  | inr says ↦ absurd (says.1 has.costs.path has.costs.leads)
]
  where
    state : State t.pattern.side
    state = record { cells = has.board; good = has.is_board }

    cells : List ℕ
    cells = placement_of t.pattern.tiles has.board

    e : (e : ℕ) × IsEntryAt t cells (blank has.board) e
    e = entry_total t.pattern is.pattern t.entries cells (blank has.board) (IsPlaced-in t.pattern is.pattern state) (IsFree-in t.pattern is.pattern state)
