-- Entries that keep the local rule are right.
use Rattle.std.proofs.Common.{◌≡◌, ℕ, suc, ◌<◌, ◌≤◌, ◌⊎◌, List, Some, None, get_or, set, inl, inr, refl, sym, ◌∙◌, ap, subst, arith}
use Rattle.std.specs.Prelude.{slice_index}
use Rattle.puz_board.specs.Boards.{IsBoardOf, blank}
use Rattle.pat_place.specs.Patterns.{ShownPattern, IsPattern}
use Rattle.pat_place.specs.Placements.{placement_of}
use Rattle.pat_place.specs.Regions.{IsSlot}
use Rattle.pat_place.proofs.SlotLemmas.{region_slot, slot_region}
use Rattle.tab_rule.specs.BadEntries.{AllKeepRule}
use Rattle.tab_rule.specs.Entries.{HasNoRegion, IsEntryAt}
use Rattle.tab_rule.specs.ExactTables.{AreExact, SaysOfBoard}
use Rattle.tab_rule.specs.LocalRule.{IsGoalSlot, IsLeastNear, IsNearEntry, LocalRule}
use Rattle.tab_rule.proofs.CaseLemmas.{RuleCase, goal, never, no_region, one_more, rule_cases}
use Rattle.tab_rule.proofs.EntryLemmas.{decode, decode_large, decode_small, decode_some, entry_total, near_entry, near_from_move, near_valid, value}
use Rattle.tab_rule.proofs.EntryLemmas.{value-constant, value-is}
use Rattle.tab_rule.proofs.EntryNumberLemmas.{entry_placement}
use Rattle.tab_rule.proofs.ValueLemmas.{exact_from_rule}
use Rattle.tab_rule.proofs.Values.{AllKeepValueRule, IsGoalRegion, IsNear, IsOneMore, IsPlaced, KeepsValueRule, SaysCost, table}

module _ (p : ShownPattern) (pat : IsPattern p) where
  -- ---- the goal's slot is the goal's region

  -- a cell of the goal's slot is in the goal's region
  pub region_from_slot : (cells : List ℕ) (c j : ℕ) → IsSlot p.side cells c j → IsGoalSlot p cells j → IsGoalRegion p cells c
  region_from_slot cells c j is g = (g.0, slot_region p.side pat.low pat.high cells c 0 j is g.1)

  -- the slot of a cell in the goal's region is the goal's
  pub slot_from_region : (cells : List ℕ) (c j : ℕ) → IsSlot p.side cells c j → IsGoalRegion p cells c → IsGoalSlot p cells j
  slot_from_region cells c j is g = (g.0, region_slot p.side pat.low pat.high cells c 0 j g.1 is)

  module _ (entries : List ℕ) where
    -- ---- the rule of values

    none_near : (cells : List ℕ) (c j : ℕ) → IsPlaced p cells → IsSlot p.side cells c j → IsLeastNear (table p entries) cells j 255
        → IsOneMore p (value p pat entries) cells c None
    none_near cells c j place is least q t near =
        let ok = near_valid p pat cells c q t place is.free near in
        let x = entry_total p pat entries q t ok.0 ok.1 in
        value-is p pat entries q t x.0 ok.0 ok.1 x.1 ∙
        decode_large x.0 (let low : 255 ≤ x.0 = least.least x.0 (near_entry p pat entries cells c j q t x.0 is near x.1) in omega arith)

    -- where the least entry one move away is below 254, some place one move away has it as its value
    pub some_near : (cells : List ℕ) (c j m : ℕ) → IsPlaced p cells → IsSlot p.side cells c j → IsLeastNear (table p entries) cells j m → m < 254
        → IsOneMore p (value p pat entries) cells c (Some (suc m))
    some_near cells c j m place is least small = (first least.reached, bound)
      where
        first : ((m ≡ 255) ⊎ IsNearEntry (table p entries) cells j m)
            → (q : List ℕ) × (t : ℕ) × (k : ℕ) × IsNear p.side cells c q t × (value p pat entries q t ≡ Some k) × (suc m ≡ suc k)
        first (inl full) = absurd (omega arith)
        first (inr h) =
            let q : List ℕ = set cells h.index h.to in
            let t : ℕ = get_or cells h.index 0 in
            let near = near_from_move p pat cells c j h.index h.to is h.moves in
            let ok = near_valid p pat cells c q t place is.free near in
            (q, t, m, near, value-is p pat entries q t m ok.0 ok.1 h.entry ∙ decode_small m (omega arith), refl)

        bound : (q : List ℕ) (t k : ℕ) → IsNear p.side cells c q t → value p pat entries q t ≡ Some k → suc m ≤ suc k
        bound q t k near has_k =
            let ok = near_valid p pat cells c q t place is.free near in
            let x = entry_total p pat entries q t ok.0 ok.1 in
            let same : x.0 ≡ k = decode_some x.0 k (sym (value-is p pat entries q t x.0 ok.0 ok.1 x.1) ∙ has_k) in
            let low : m ≤ x.0 = least.least x.0 (near_entry p pat entries cells c j q t x.0 is near x.1) in
            omega arith

    -- an entry that keeps the local rule has a value that keeps the rule of values
    pub value_rule_at : (cells : List ℕ) (c e j : ℕ) → IsPlaced p cells → IsEntryAt (table p entries) cells c e → IsSlot p.side cells c j
        → LocalRule (table p entries) cells j e
        → KeepsValueRule p (value p pat entries) cells c
    value_rule_at cells c e j place at_c is rule = go (rule_cases (table p entries) cells j e rule)
      where
        known : value p pat entries cells c ≡ decode e
        known = value-is p pat entries cells c e place is.free at_c

        go : RuleCase (table p entries) cells j e → KeepsValueRule p (value p pat entries) cells c
        go (no_region none full) = absurd (none c is)
        go (goal g zero) = inl (region_from_slot cells c j is g, known ∙ ap decode zero)
        go (one_more m region far least small more) =
            inr (
              λ g. far (slot_from_region cells c j is g),
              subst (IsOneMore p (value p pat entries) cells c) (sym (known ∙ ap decode more ∙ decode_small (suc m) (omega arith)))
                  (some_near cells c j m place is least (omega arith)),
            )
        go (never region far least full) =
            inr (
              λ g. far (slot_from_region cells c j is g),
              subst (IsOneMore p (value p pat entries) cells c) (sym (known ∙ ap decode full)) (none_near cells c j place is least),
            )

  module _ (entries : List ℕ) (keeps : AllKeepRule (table p entries)) where
    value_rule : AllKeepValueRule p (value p pat entries)
    value_rule cells c place free =
        let e = entry_total p pat entries cells c place free in
        value_rule_at entries cells c e.0 e.1.slot place e.1 e.1.is_slot
        (subst (LocalRule (table p entries) cells e.1.slot) e.1.holds (keeps e.1.number cells e.1.slot e.1.is_number))

    -- ---- what each entry says

    -- an entry of a region is a count or 255
    shape : (cells : List ℕ) (c j e : ℕ) → IsSlot p.side cells c j → RuleCase (table p entries) cells j e → (e ≤ 253) ⊎ (e ≡ 255)
    shape cells c j e is (no_region none full) = absurd (none c is)
    shape cells c j e is (goal g zero) = inl (omega arith)
    shape cells c j e is (one_more m region far least small more) = inl (omega arith)
    shape cells c j e is (never region far least full) = inr full

    -- an entry of no region is 254
    empty : (cells : List ℕ) (j e : ℕ) → RuleCase (table p entries) cells j e → HasNoRegion p.side cells j → e ≡ 254
    empty cells j e (no_region none full) nowhere = full
    empty cells j e (goal g zero) nowhere = absurd (nowhere 0 g.1)
    empty cells j e (one_more m region far least small more) nowhere = absurd (nowhere region.cell region.in_slot)
    empty cells j e (never region far least full) nowhere = absurd (nowhere region.cell region.in_slot)

    -- entries that all keep the local rule are all right
    pub exact_entries : AreExact (table p entries)
    exact_entries cells j number is = record { no_region = empty cells j e kept; boards = says }
      where
        e : ℕ
        e = slice_index entries number

        kept : RuleCase (table p entries) cells j e
        kept = rule_cases (table p entries) cells j e (keeps number cells j is)

        says : (b : List ℕ) → IsBoardOf p.side b → placement_of p.tiles b ≡ cells → IsSlot p.side cells (blank b) j → SaysOfBoard p.tiles b e
        says b good same slot = elim (shape cells (blank b) j e slot kept) [
          | inl small ↦ inl (small, subst (SaysCost p.tiles b) (known ∙ decode_small e (omega arith)) right)
          | inr full ↦ inr (full, subst (SaysCost p.tiles b) (known ∙ decode_large e (omega arith)) right)
        ]
          where
            known : value p pat entries (placement_of p.tiles b) (blank b) ≡ decode e
            known =
                ap (λ q. value p pat entries q (blank b)) same ∙
                value-is p pat entries cells (blank b) e (entry_placement is) slot.free
                (record { slot = j; is_slot = slot; number = number; is_number = is; holds = refl })

            right : SaysCost p.tiles b (value p pat entries (placement_of p.tiles b) (blank b))
            right = exact_from_rule p pat (value p pat entries) (value-constant p pat entries) value_rule b good
