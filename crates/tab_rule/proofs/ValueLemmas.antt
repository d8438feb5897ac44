-- Values that keep the rule at every placement and free cell are the least costs of all boards, and back.
use Rattle.std.proofs.Common.{◌≡◌, ℕ, suc, ◌≤◌, ◌⊎◌, List, [], ◌∷◌, Option, Some, None, inl, inr, refl, sym, ◌∙◌, ap₂, subst}
use Rattle.std.specs.Prelude.{IfSome}
use Rattle.std.proofs.lemmas.Bool.{cases_eq}
use Rattle.puz_board.specs.Boards.{IsBoardOf, blank}
use Rattle.puz_board.specs.Costs.{IsLeastCost}
use Rattle.puz_board.proofs.BoardWays.{Free, Home, Paid, State, least_of_ways, never_of_ways, ways_of_least, ways_of_never}
use Rattle.puz_board.proofs.Ways
use Rattle.puz_board.proofs.WayLemmas
use Rattle.pat_place.specs.BoardLaws.{HasBoard}
use Rattle.pat_place.specs.Patterns.{ShownPattern, IsPattern}
use Rattle.pat_place.specs.Placements.{IsFree, placement_of}
use Rattle.pat_place.proofs.BoardOf.{board_of}
use Rattle.pat_place.proofs.JoinLemmas.{Decided, joins_decided}
use Rattle.tab_rule.proofs.LimitWays
use Rattle.tab_rule.proofs.NearLemmas.{IsFree-in, IsPlaced-in, blank_in, cells_in, free_keeps, goal_region, near_from_one, one_from_near, region_goal}
use Rattle.tab_rule.proofs.Values.{AllKeepValueRule, IsConstant, IsExactValue, IsGoalRegion, IsOneMore, IsPlaced, KeepsValueRule, SaysCost}

-- ---- whether a cell is of the goal's region

-- whether two lists of numbers are the same can be decided
pub same_list_decided : (xs ys : List ℕ) → Decided (xs ≡ ys)
same_list_decided [] [] = inl refl
same_list_decided [] (y ∷ ys) = inr (λ e. cc)
same_list_decided (x ∷ xs) [] = inr (λ e. cc)
same_list_decided (x ∷ xs) (y ∷ ys) = elim (cases_eq x y) [
  | inl e ↦ elim (same_list_decided xs ys) [ inl f ↦ inl (ap₂ (λ a b. a ∷ b) e f) | inr ne ↦ inr (λ q. ne (let w : xs ≡ ys = cc in w)) ]
  | inr ne ↦ inr (λ q. ne (let w : x ≡ y = cc in w))
]

-- whether a placement and a cell are in the goal's region can be decided
pub goal_decided : (p : ShownPattern) (cells : List ℕ) (c : ℕ) → Decided (IsGoalRegion p cells c)
goal_decided p cells c = elim (same_list_decided cells p.tiles) [
  | inl e ↦ elim (joins_decided p.side cells c 0) [ inl r ↦ inl (e, r) | inr none ↦ inr (λ g. none g.1) ]
  | inr ne ↦ inr (λ g. ne g.0)
]

module _ (p : ShownPattern) (pat : IsPattern p) (value : List ℕ → ℕ → Option ℕ) (constant : IsConstant p value) where
  -- ---- the value of a state

  abbrev v : State p.side → Option ℕ
  v s = value (cells_in p pat s) (blank_in p pat s)

  -- a free step keeps it
  steady : (s t : State p.side) → Free p.side p.tiles s t → v t ≡ v s
  steady s t f =
      let k = free_keeps p pat s t f in
      ap₂ value k.0 k.1 ∙ constant (cells_in p pat s) (blank_in p pat s) f.0 (IsPlaced-in p pat s) (IsFree-in p pat s) k.2 f.1

  says_board : (s : State p.side) (x : Option ℕ) → Ways.Says (Free p.side p.tiles) (Paid p.side p.tiles) (Home p.side p.tiles) s x → SaysCost p.tiles s.cells x
  says_board s None never = never_of_ways p.side p.tiles s never
  says_board s (Some d) least = least_of_ways p.side p.tiles s d least

  says_state : (s : State p.side) (x : Option ℕ) → SaysCost p.tiles s.cells x → Ways.Says (Free p.side p.tiles) (Paid p.side p.tiles) (Home p.side p.tiles) s x
  says_state s None never = ways_of_never p.side p.tiles s never
  says_state s (Some d) least = ways_of_least p.side p.tiles s d least

  -- ---- the rule of a state is that of its placement and cell

  one_state : (s : State p.side) (x : Option ℕ) → IsOneMore p value (cells_in p pat s) (blank_in p pat s) x
      → Ways.OneMore (Free p.side p.tiles) (Paid p.side p.tiles) (Home p.side p.tiles) v s x
  one_state s None one = λ t o. one (cells_in p pat t) (blank_in p pat t) (near_from_one p pat s t o)
  one_state s (Some d) one =
      let u = one_from_near p pat s (cells_in p pat s) (blank_in p pat s) one.0.0 one.0.1 refl refl one.0.3 in (
        (u.0, one.0.2, u.1, ap₂ value u.2 u.3 ∙ one.0.4, one.0.5),
        λ t k o e. one.1 (cells_in p pat t) (blank_in p pat t) k (near_from_one p pat s t o) e,
      )

  one_place : (s : State p.side) (x : Option ℕ) → Ways.OneMore (Free p.side p.tiles) (Paid p.side p.tiles) (Home p.side p.tiles) v s x
      → IsOneMore p value (cells_in p pat s) (blank_in p pat s) x
  one_place s None one = λ q t near. let u = one_from_near p pat s (cells_in p pat s) (blank_in p pat s) q t refl refl near in
      ap₂ value (sym u.2) (sym u.3) ∙ one u.0 u.1
  one_place s (Some d) one = (
    (cells_in p pat one.0.0, blank_in p pat one.0.0, one.0.1, near_from_one p pat s one.0.0 one.0.2, one.0.3, one.0.4),
    λ q t k near e. let u = one_from_near p pat s (cells_in p pat s) (blank_in p pat s) q t refl refl near in one.1 u.0 k u.1 (ap₂ value u.2 u.3 ∙ e),
  )

  rule_state : (s : State p.side) → KeepsValueRule p value (cells_in p pat s) (blank_in p pat s)
      → Ways.Rule (Free p.side p.tiles) (Paid p.side p.tiles) (Home p.side p.tiles) v s
  rule_state s rule = elim rule [ inl g ↦ inl (region_goal p pat s g.0, g.1) | inr o ↦ inr (λ g. o.0 (goal_region p pat s g), one_state s (v s) o.1) ]

  rule_place : (s : State p.side) → Ways.Rule (Free p.side p.tiles) (Paid p.side p.tiles) (Home p.side p.tiles) v s
      → KeepsValueRule p value (cells_in p pat s) (blank_in p pat s)
  rule_place s rule = elim rule [ inl g ↦ inl (goal_region p pat s g.0, g.1) | inr o ↦ inr (λ g. o.0 (region_goal p pat s g), one_place s (v s) o.1) ]

  -- ---- both ways

  -- values that keep the rule at every placement and free cell are the least costs of all boards
  pub exact_from_rule : AllKeepValueRule p value → IsExactValue p value
  exact_from_rule rule b good =
      let s : State p.side = record { cells = b; good = good } in
      says_board s (v s) (WayLemmas.says_from_rule (Free p.side p.tiles) (Paid p.side p.tiles) (Home p.side p.tiles) v steady
      (λ t. rule_state t (rule (cells_in p pat t) (blank_in p pat t) (IsPlaced-in p pat t) (IsFree-in p pat t))) s)

  -- at the placement and blank of each board
  rule_at_boards : IsExactValue p value → (s : State p.side) → KeepsValueRule p value (cells_in p pat s) (blank_in p pat s)
  rule_at_boards exact s =
      rule_place s (WayLemmas.rule_from_says (Free p.side p.tiles) (Paid p.side p.tiles) (Home p.side p.tiles) v steady
      (λ t. elim (goal_decided p (cells_in p pat t) (blank_in p pat t)) [
        | inl g ↦ inl (region_goal p pat t g)
        | inr far ↦ inr (λ g. far (goal_region p pat t g))
      ])
      (λ t. says_state t (v t) (exact t.cells t.good)) s)

  -- values that are the least costs of all boards keep the rule at every placement and free cell
  pub rule_from_exact : IsExactValue p value → AllKeepValueRule p value
  rule_from_exact exact cells c place free =
      let has : HasBoard (record { pattern = p; cells = cells }) c = board_of (record { pattern = p; cells = cells }) pat place c free in
      let s : State p.side = record { cells = has.board; good = has.is_board } in
      subst (λ x. KeepsValueRule p value cells x) has.blank_cell (subst (λ q. KeepsValueRule p value q (blank has.board)) has.places (rule_at_boards exact s))

  -- ---- up to a count

  -- the value is none, though the least value near by is the count
  abbrev pub IsPastValue : ℕ → List ℕ → ℕ → Type 0
  IsPastValue most cells c = (¬ IsGoalRegion p cells c) × (value cells c ≡ None) × IsOneMore p value cells c (Some (suc most))

  -- the value keeps the rule and is no greater than the count, or it is past the count
  abbrev pub KeepsValueRuleUpTo : ℕ → List ℕ → ℕ → Type 0
  KeepsValueRuleUpTo most cells c = (KeepsValueRule p value cells c × IfSome (value cells c) (λ d. d ≤ most)) ⊎ IsPastValue most cells c

  -- where each value keeps the rule up to a count, a board whose value is past it costs one more
  module _ (most : ℕ) (rule : (cells : List ℕ) (c : ℕ) → IsPlaced p cells → IsFree p.side cells c → KeepsValueRuleUpTo most cells c) where
    past_state : (s : State p.side) → IsPastValue most (cells_in p pat s) (blank_in p pat s)
        → LimitWays.IsPast (Free p.side p.tiles) (Paid p.side p.tiles) (Home p.side p.tiles) v most s
    past_state s past = (λ g. past.0 (goal_region p pat s g), past.1, one_state s (Some (suc most)) past.2)

    rule_up_to : (s : State p.side) → LimitWays.RuleUpTo (Free p.side p.tiles) (Paid p.side p.tiles) (Home p.side p.tiles) v most s
    rule_up_to s = elim (rule (cells_in p pat s) (blank_in p pat s) (IsPlaced-in p pat s) (IsFree-in p pat s)) [
      | inl keeps ↦ inl (rule_state s keeps.0, keeps.1)
      | inr past ↦ inr (past_state s past)
    ]

    -- a board past the count has a least cost of one more than the count
    pub cost_past : (b : List ℕ) → IsBoardOf p.side b → IsPastValue most (placement_of p.tiles b) (blank b) → IsLeastCost p.tiles b (suc most)
    cost_past b good past =
        let s : State p.side = record { cells = b; good = good } in
        least_of_ways p.side p.tiles s (suc most) (LimitWays.past_costs (Free p.side p.tiles) (Paid p.side p.tiles)
        (Home p.side p.tiles) v steady most rule_up_to s (past_state s past))
