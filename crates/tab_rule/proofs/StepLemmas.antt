-- One step of the blank, and paths, in a table.
use Rattle.std.proofs.Common.{◌≡◌, ℕ, ◌+◌, ◌≤◌, true, false, cond, List, [], ◌∷◌, inl, inr, refl, sym, ap, subst, arith}
use Rattle.puz_board.specs.Boards.{IsBoardOf, at, blank, slid}
use Rattle.puz_board.specs.Cells.{Adjacent}
use Rattle.puz_board.specs.Costs.{LeadsHome, cost, has}
use Rattle.puz_board.proofs.BoardWays.{State, moved}
use Rattle.puz_board.proofs.Ways
use Rattle.pat_place.specs.Placements.{placement_of}
use Rattle.pat_place.specs.Regions.{IsSlot, here, onward}
use Rattle.pat_place.proofs.SlotLemmas.{region_slot}
use Rattle.tab_file.specs.Tables.{Table, IsTable}
use Rattle.tab_rule.specs.BadEntries.{AllKeepRule}
use Rattle.tab_rule.specs.Entries.{IsEntryAt}
use Rattle.tab_rule.specs.ExactTables.{SaysOfBoard}
use Rattle.tab_rule.specs.Laws.{HasPathOf, IsEntryOf}
use Rattle.tab_rule.specs.LocalRule.{IsNearEntry}
use Rattle.tab_rule.proofs.EntryLemmas.{near_entry}
use Rattle.tab_rule.proofs.ExactLemmas.{files_exact}
use Rattle.tab_rule.proofs.NearLemmas.{free_keeps, near_from_one}

module _ (t : Table) (is : IsTable t) (b : List ℕ) (good : IsBoardOf t.pattern.side b) where
  before : State t.pattern.side
  before = record { cells = b; good = good }

  module _ (c : ℕ) (adjacent : Adjacent t.pattern.side (blank b) c) where
    -- a step that slides a number not of the pattern costs nothing, and the entry stays the board's
    pub other_step : has t.pattern.tiles (at b c) ≡ false → (cost t.pattern.tiles b (c ∷ []) ≡ 0) × ((e : ℕ) → IsEntryOf t b e → IsEntryOf t (slid b c) e)
    unfolding before
    other_step other = (ap (λ h. cond h 1 0 + 0) other, keeps)
      where
        keeps : (e : ℕ) → IsEntryOf t b e → IsEntryOf t (slid b c) e
        keeps e entry =
            let k = free_keeps t.pattern is.pattern before (moved t.pattern.side t.pattern.tiles before c adjacent.0) (c, adjacent, other, refl) in
            let at_c : IsEntryAt t (placement_of t.pattern.tiles b) c e = record {
              slot = entry.slot;
              is_slot = region_slot t.pattern.side is.pattern.low is.pattern.high (placement_of t.pattern.tiles b) (blank b) c entry.slot
                  (onward adjacent k.2 here) entry.is_slot;
              number = entry.number;
              is_number = entry.is_number;
              holds = entry.holds;
            } in
            subst (λ x. IsEntryAt t (placement_of t.pattern.tiles (slid b c)) x e) (sym k.1) (subst (λ q. IsEntryAt t q c e) (sym k.0) at_c)

    -- a step that slides a tile of the pattern costs 1, and the entry after it is one move away
    pub tile_step : has t.pattern.tiles (at b c) ≡ true → (cost t.pattern.tiles b (c ∷ []) ≡ 1) ×
        ((j e : ℕ) → IsSlot t.pattern.side (placement_of t.pattern.tiles b) (blank b) j → IsEntryOf t (slid b c) e
        → IsNearEntry t (placement_of t.pattern.tiles b) j e)
    unfolding before
    tile_step tile = (ap (λ h. cond h 1 0 + 0) tile, leads)
      where
        leads : (j e : ℕ) → IsSlot t.pattern.side (placement_of t.pattern.tiles b) (blank b) j → IsEntryOf t (slid b c) e
            → IsNearEntry t (placement_of t.pattern.tiles b) j e
        leads j e slot entry =
            let near = near_from_one t.pattern is.pattern before (moved t.pattern.side t.pattern.tiles before c adjacent.0)
            (before, Ways.here, (c, adjacent, tile, refl)) in
            near_entry t.pattern is.pattern t.entries (placement_of t.pattern.tiles b) (blank b) j (placement_of t.pattern.tiles (slid b c))
            (blank (slid b c)) e slot near entry

  module _ (keeps : AllKeepRule t) (e : ℕ) (entry : IsEntryOf t b e) where
    says : SaysOfBoard t.pattern.tiles b e
    says =
        let right = (files_exact t is).0 keeps (placement_of t.pattern.tiles b) entry.slot entry.number entry.is_number in
        subst (SaysOfBoard t.pattern.tiles b) entry.holds (right.boards b good refl entry.is_slot)

    -- where the entries keep the rule, each path home costs at least the board's entry, which is then a count
    pub path_cost : (path : List ℕ) → LeadsHome t.pattern.tiles b path → (e ≤ 253) × (e ≤ cost t.pattern.tiles b path)
    path_cost path leads = elim says [ inl h ↦ (h.0, h.1.least path leads) | inr h ↦ absurd (h.1 path leads) ]

    -- where the entries keep the rule, an entry of at most 253 is the cost of a path home from its board
    pub path_of_count : e ≤ 253 → HasPathOf t.pattern.tiles b e
    path_of_count small = elim says [
      | inl h ↦ record { path = h.1.path; leads = h.1.leads; costs = h.1.costs }
      | inr h ↦ absurd (let full = h.0 in omega arith)
    ]
