-- Right entries keep the local rule.
use Rattle.std.proofs.Common.{◌≡◌, ℕ, suc, ◌<◌, ◌≤◌, ◌⊎◌, ◌↔◌, List, get_or, set, Some, None, inl, inr, refl, sym, ◌∙◌, subst, arith}
use Rattle.std.specs.Prelude.{slice_index}
use Rattle.puz_board.specs.Boards.{IsBoardOf, blank}
use Rattle.puz_board.proofs.BoardWays.{State}
use Rattle.pat_place.specs.BoardLaws.{HasBoard}
use Rattle.pat_place.specs.Patterns.{ShownPattern, IsPattern}
use Rattle.pat_place.specs.Placements.{IsFree, placement_of}
use Rattle.pat_place.specs.Regions.{IsSlot}
use Rattle.pat_place.proofs.BoardOf.{board_of}
use Rattle.tab_file.specs.Tables.{Table, IsTable}
use Rattle.tab_rule.specs.BadEntries.{AllKeepRule}
use Rattle.tab_rule.specs.Entries.{HasRegion, IsEntryAt}
use Rattle.tab_rule.specs.ExactTables.{AreExact, SaysOfBoard}
use Rattle.tab_rule.specs.LocalRule.{IsGoalSlot, IsLeastNear, IsNearEntry}
use Rattle.tab_rule.proofs.CaseLemmas.{RuleCase, goal, never, no_region, one_more, rule_of_case}
use Rattle.tab_rule.proofs.EntryLemmas.{decode, decode_large, decode_small, decode_some, entry_total, near_entry, near_from_move, near_valid}
use Rattle.tab_rule.proofs.EntryLemmas.{region_cases, value, value-constant, value-is}
use Rattle.tab_rule.proofs.EntryNumberLemmas.{entry_placement}
use Rattle.tab_rule.proofs.NearLemmas.{IsFree-in, IsPlaced-in}
use Rattle.tab_rule.proofs.RuleLemmas.{exact_entries, region_from_slot, slot_from_region}
use Rattle.tab_rule.proofs.ValueLemmas.{rule_from_exact}
use Rattle.tab_rule.proofs.Values.{IsExactValue, IsNear, IsOneMore, IsPlaced, SaysCost, table}

module _ (p : ShownPattern) (pat : IsPattern p) (entries : List ℕ) (exact : AreExact (table p entries)) where
  says_of : (cells : List ℕ) (c e : ℕ) → IsEntryAt (table p entries) cells c e → (b : List ℕ) → IsBoardOf p.side b → placement_of p.tiles b ≡ cells
      → blank b ≡ c → SaysOfBoard p.tiles b e
  says_of cells c e is b good same z =
      subst (SaysOfBoard p.tiles b) is.holds ((exact cells is.slot is.number is.is_number).boards b good same
      (subst (λ x. IsSlot p.side cells x is.slot) (sym z) is.is_slot))

  exact_value : IsExactValue p (value p pat entries)
  exact_value b good = elim (says_of (placement_of p.tiles b) (blank b) e.0 e.1 b good refl refl) [
    | inl h ↦ subst (SaysCost p.tiles b) (sym (known ∙ decode_small e.0 (let l : e.0 ≤ 253 = h.0 in omega arith))) h.1
    | inr h ↦ subst (SaysCost p.tiles b) (sym (known ∙ decode_large e.0 (let l : e.0 ≡ 255 = h.0 in omega arith))) h.1
  ]
    where
      s : State p.side
      s = record { cells = b; good = good }

      place : IsPlaced p (placement_of p.tiles b)
      place = IsPlaced-in p pat s

      free : IsFree p.side (placement_of p.tiles b) (blank b)
      free = IsFree-in p pat s

      e : (e : ℕ) × IsEntryAt (table p entries) (placement_of p.tiles b) (blank b) e
      e = entry_total p pat entries (placement_of p.tiles b) (blank b) place free

      known : value p pat entries (placement_of p.tiles b) (blank b) ≡ decode e.0
      known = value-is p pat entries (placement_of p.tiles b) (blank b) e.0 place free e.1

  -- an entry of a region is a count or 255, since some board has that placement and region
  shape : (cells : List ℕ) (c e : ℕ) → IsPlaced p cells → IsFree p.side cells c → IsEntryAt (table p entries) cells c e → (e ≤ 253) ⊎ (e ≡ 255)
  shape cells c e place free is =
      let has : HasBoard (record { pattern = p; cells = cells }) c = board_of (record { pattern = p; cells = cells }) pat place c free in
      elim (says_of cells c e is has.board has.is_board has.places has.blank_cell) [ inl h ↦ inl h.0 | inr h ↦ inr h.0 ]

  -- the value of a neighbour with a count
  near_value : (cells : List ℕ) (c : ℕ) (q : List ℕ) (t x : ℕ) → IsPlaced p cells → IsFree p.side cells c → IsNear p.side cells c q t
      → IsEntryAt (table p entries) q t x → x ≤ 253
      → value p pat entries q t ≡ Some x
  near_value cells c q t x place free near at_q l =
      let ok = near_valid p pat cells c q t place free near in
      value-is p pat entries q t x ok.0 ok.1 at_q ∙ decode_small x (omega arith)

  module _ (cells : List ℕ) (c j e : ℕ) (place : IsPlaced p cells) (slot : IsSlot p.side cells c j) (is : IsEntryAt (table p entries) cells c e) where
    region : HasRegion p.side cells j
    region = record { cell = c; in_slot = slot }

    -- an entry one move away is the value near by, or 255
    near_known : (x : ℕ) → IsNearEntry (table p entries) cells j x
        → ((q : List ℕ) × (t : ℕ) × IsNear p.side cells c q t × (value p pat entries q t ≡ Some x)) ⊎ (x ≡ 255)
    near_known x next =
        let q : List ℕ = set cells next.index next.to in
        let t : ℕ = get_or cells next.index 0 in
        let at_q : IsEntryAt (table p entries) q t x = next.entry in
        let near = near_from_move p pat cells c j next.index next.to slot next.moves in
        let ok = near_valid p pat cells c q t place slot.free near in
        elim (shape q t x ok.0 ok.1 at_q) [ inl l ↦ inl (q, t, near, near_value cells c q t x place slot.free near at_q l) | inr full ↦ inr full ]

    -- where the value is one more than the least near it, so is the entry
    least_near : (k : ℕ) (q : List ℕ) (t : ℕ) → k < 253 → e ≡ suc k → IsNear p.side cells c q t → value p pat entries q t ≡ Some k
        → ((q : List ℕ) (t k : ℕ) → IsNear p.side cells c q t → value p pat entries q t ≡ Some k → e ≤ suc k) → IsLeastNear (table p entries) cells j k
    least_near k q t small more near has_k bound = record {
      most = omega arith;
      least = lower;
      reached = inr (near_entry p pat entries cells c j q t k slot near at_k);
    }
      where
        ok : IsPlaced p q × IsFree p.side q t
        ok = near_valid p pat cells c q t place slot.free near

        x : (x : ℕ) × IsEntryAt (table p entries) q t x
        x = entry_total p pat entries q t ok.0 ok.1

        at_k : IsEntryAt (table p entries) q t k
        at_k = subst (IsEntryAt (table p entries) q t) (decode_some x.0 k (sym (value-is p pat entries q t x.0 ok.0 ok.1 x.1) ∙ has_k)) x.1

        lower : (x : ℕ) → IsNearEntry (table p entries) cells j x → k ≤ x
        lower x next = elim (near_known x next) [ inl h ↦ (let b : e ≤ suc x = bound h.0 h.1 x h.2 h.3 in omega arith) | inr full ↦ omega arith ]

    none_near : ((q : List ℕ) (t : ℕ) → IsNear p.side cells c q t → value p pat entries q t ≡ None) → IsLeastNear (table p entries) cells j 255
    none_near none = record { most = omega arith; least = lower; reached = inl refl }
      where
        lower : (x : ℕ) → IsNearEntry (table p entries) cells j x → 255 ≤ x
        lower x next = elim (near_known x next) [ inl h ↦ absurd (let bad : Some x ≡ None = sym h.3 ∙ none h.0 h.1 h.2 in cc) | inr full ↦ omega arith ]

    rule_at : RuleCase (table p entries) cells j e
    rule_at = elim (rule_from_exact p pat (value p pat entries) (value-constant p pat entries) exact_value cells c place slot.free) [
      | inl g ↦ goal (slot_from_region p pat cells c j slot g.0) (decode_some e 0 (sym known ∙ g.1))
      | inr far ↦ away (λ g. far.0 (region_from_slot p pat cells c j slot g)) (shape cells c e place slot.free is) far.1
    ]
      where
        known : value p pat entries cells c ≡ decode e
        known = value-is p pat entries cells c e place slot.free is

        counted : (¬ IsGoalSlot p cells j) → e ≤ 253 → IsOneMore p (value p pat entries) cells c (Some e) → RuleCase (table p entries) cells j e
        counted far l one =
            let k : ℕ = one.0.2 in
            let more : e ≡ suc k = one.0.5 in
            let small : k < 253 = omega arith in
            one_more k region far (least_near k one.0.0 one.0.1 small more one.0.3 one.0.4 one.1) small more

        away : (¬ IsGoalSlot p cells j) → (e ≤ 253) ⊎ (e ≡ 255) → IsOneMore p (value p pat entries) cells c (value p pat entries cells c)
            → RuleCase (table p entries) cells j e
        away far (inl l) one = counted far l (subst (IsOneMore p (value p pat entries) cells c) (known ∙ decode_small e (omega arith)) one)
        away far (inr full) one = never region far (none_near
            (subst (IsOneMore p (value p pat entries) cells c) (known ∙ decode_large e (omega arith)) one)) full

  -- where all entries are right, each of them keeps the local rule
  pub entries_keep : AllKeepRule (table p entries)
  entries_keep number cells j is = rule_of_case (table p entries) cells j (slice_index entries number) pat (entry_placement is)
      (elim (region_cases p pat cells j) [
        | inr none ↦ no_region none ((exact cells j number is).no_region none)
        | inl has ↦ rule_at cells has.cell j (slice_index entries number) (entry_placement is) has.in_slot
            (record { slot = j; is_slot = has.in_slot; number = number; is_number = is; holds = refl })
      ])

-- the entries of a table all keep the local rule exactly where they are all right
pub files_exact : (t : Table) → IsTable t → AllKeepRule t ↔ AreExact t
files_exact t is = (exact_entries t.pattern is.pattern t.entries, entries_keep t.pattern is.pattern t.entries)
