-- The least entry one move away from a region.
use Rattle.std.proofs.Common.{ℕ, ◌*◌, ◌<◌, List, length, get_or, set, inl, inr, refl, subst, arith}
use Rattle.std.proofs.lemmas.Bool.{cases_eq, cases_lt}
use Rattle.pat_place.specs.Patterns.{IsPattern}
use Rattle.pat_place.proofs.JoinLemmas.{Decided, adjacent_decided}
use Rattle.pat_place.proofs.SlotLemmas.{least_below}
use Rattle.tab_file.specs.Tables.{Table}
use Rattle.tab_rule.specs.Entries.{HasRegion, IsEntryAt}
use Rattle.tab_rule.specs.LocalRule.{IsLeastNear, IsNearEntry, MayMove}
use Rattle.tab_rule.proofs.EntryLemmas.{cell_decided, entry_one, entry_total, near_from_move, near_valid}
use Rattle.tab_rule.proofs.Values.{IsPlaced}

module _ (t : Table) (pat : IsPattern t.pattern) (cells : List ℕ) (place : IsPlaced t.pattern cells) (j : ℕ) where
  -- ---- the entries one move away

  move_decided : (index to : ℕ) → Decided (MayMove t.pattern.side cells j index to)
  move_decided index to = elim (cell_decided t.pattern pat cells j to) [
    | inr none ↦ inr (λ m. none m.in_slot)
    | inl inside ↦ elim (cases_lt index (length cells)) [
      | inr past ↦ inr (λ m. let l : index < length cells = m.is_index in omega arith)
      | inl low ↦ elim (adjacent_decided t.pattern.side cells to (get_or cells index 0)) [
        | inl beside ↦ inl (record { in_slot = inside; is_index = low; adjacent = beside })
        | inr none ↦ inr (λ m. none m.adjacent)
      ]
    ]
  ]

  module _ (has : HasRegion t.pattern.side cells j) where
    -- e is the entry after this move
    abbrev LeadsTo : ℕ → ℕ → ℕ → Type 0
    LeadsTo e index to = MayMove t.pattern.side cells j index to × IsEntryAt t (set cells index to) (get_or cells index 0) e

    after_decided : (e index to : ℕ) → Decided (LeadsTo e index to)
    after_decided e index to = elim (move_decided index to) [
      | inr none ↦ inr (λ h. none h.0)
      | inl moves ↦
          let q : List ℕ = set cells index to in
          let left : ℕ = get_or cells index 0 in
          let near = near_from_move t.pattern pat cells has.cell j index to has.in_slot moves in
          let ok = near_valid t.pattern pat cells has.cell q left place has.in_slot.free near in
          let x = entry_total t.pattern pat t.entries q left ok.0 ok.1 in
          elim (cases_eq x.0 e) [
            | inl same ↦ inl (moves, subst (IsEntryAt t q left) same x.1)
            | inr other ↦ inr (λ h. other (entry_one t.pattern pat t.entries q left x.0 e x.1 h.1))
          ]
    ]

    tile_decided : (e index : ℕ) → Decided ((to : ℕ) × LeadsTo e index to)
    tile_decided e index = elim (least_below (LeadsTo e index) (after_decided e index) (t.pattern.side * t.pattern.side)) [
      | inl h ↦ inl (h.0, h.2)
      | inr none ↦ inr (λ h. none h.0 h.1.0.in_slot.free.0 h.1)
    ]

    near_decided : (e : ℕ) → Decided (IsNearEntry t cells j e)
    near_decided e = elim (least_below (λ index. (to : ℕ) × LeadsTo e index to) (tile_decided e) (length cells)) [
      | inl h ↦ inl (record { index = h.0; to = h.2.0; moves = h.2.1.0; entry = h.2.1.1 })
      | inr none ↦ inr (λ near. none near.index near.moves.is_index (near.to, (near.moves, near.entry)))
    ]

    -- for a slot with a region there is a least entry one move away, or it is 255
    pub least_near_some : (m : ℕ) × IsLeastNear t cells j m
    least_near_some = elim (least_below (IsNearEntry t cells j) near_decided 255) [
      | inl h ↦ (h.0, record { most = (let l : h.0 < 255 = h.1 in omega arith); least = h.3; reached = inr h.2 })
      | inr none ↦ (
        255,
        record {
          most = omega arith;
          least = λ e near. elim (cases_lt e 255) [ inl l ↦ absurd (none e l near) | inr l ↦ l ];
          reached = inl refl;
        },
      )
    ]
