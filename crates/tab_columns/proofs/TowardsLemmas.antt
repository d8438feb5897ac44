-- The entries after the moves of one tile, and of all tiles.
use Rattle.std.proofs.Common.{◌≡◌, ℕ, ◌+◌, ◌*◌, ◌<◌, ◌≤◌, ◌⊎◌, List, length, Some, None, get_or, set, min, inl, inr, sym, ◌∙◌, subst, arith}
use Rattle.std.specs.Int.{bit_at}
use Rattle.std.proofs.lemmas.Bool.{cases_eq}
use Rattle.puz_board.specs.declared.moves.Move.{Move}
use Rattle.puz_board.specs.declared.moves.Move.TheVariants.{Up, Down, Left, Right}
use Rattle.puz_board.specs.Cells.{Adjacent, step_of, reverse_of}
use Rattle.puz_board.proofs.CellLemmas.{reverse_of-takes_back}
use Rattle.pat_place.specs.Placements.{ShownPlacement}
use Rattle.pat_place.specs.Regions.{IsSlot}
use Rattle.pat_place.proofs.ListLemmas.{Some-one, all_at}
use Rattle.pat_place.proofs.SlotLemmas.{slot_one}
use Rattle.tab_file.specs.Tables.{Table, IsTable, slot_count}
use Rattle.tab_rule.specs.Entries.{IsEntryAt}
use Rattle.tab_rule.specs.LocalRule.{IsLeastNear, IsLeastOf, IsNearEntry}
use Rattle.tab_columns.specs.Moves.{IsEntryAfter, IsEntryAmong, IsEntryTowards, IsFoundTowards, IsRegion, IsTileIn, NoneTowards}
use Rattle.tab_rule.proofs.EntryLemmas.{entry_one}
use Rattle.tab_rule.proofs.MoveLemmas.{IsLeastOf-min, IsLeastOf-none, IsLeastOf-one, IsLeastOf-same}

module _ (t : Table) (p : ShownPlacement) (index cell : ℕ) (tile : IsTileIn t p index cell) where
  table : IsTable t
  table = tile.0

  cell_in : get_or p.cells index 0 < t.pattern.side * t.pattern.side
  cell_in = subst (λ q. get_or p.cells index 0 < q.side * q.side) tile.1 (all_at p.cells index tile.2.inside tile.3)

  -- a move from the tile's cell leads back from where it goes
  back : (mv : Move) (to : ℕ) → step_of t.pattern.side (get_or p.cells index 0) mv ≡ Some to → Adjacent t.pattern.side to (get_or p.cells index 0)
  back mv to steps = (
    cell_in,
    reverse_of mv,
    reverse_of-takes_back mv t.pattern.side
        (get_or p.cells index 0) to table.pattern.low table.pattern.high cell_in steps,
  )

  module _ (j region : ℕ) (is : IsRegion t.pattern.side p.cells j region) (mv : Move) where
    -- where a tile's move leads into the slot's region, the entry after it is the least, being the only one
    pub towards_some : (to e : ℕ) → step_of t.pattern.side (get_or p.cells index 0) mv ≡ Some to → bit_at region to ≡ 1 → e < 256
        → IsEntryAt t (set p.cells index to) (get_or p.cells index 0) e
        → IsLeastOf (IsEntryTowards t p.cells j index mv) e
    towards_some to e steps inside fits entry = IsLeastOf-one (IsEntryTowards t p.cells j index mv) e (omega arith)
        (record {
          to = to;
          steps = steps;
          moves = record { in_slot = (is to).0 inside; is_index = tile.3; adjacent = back mv to steps };
          entry = entry;
        })
        only
      where
        only : (f : ℕ) → IsEntryTowards t p.cells j index mv f → f ≡ e
        only f other =
            let same : other.to ≡ to = Some-one other.to to (sym other.steps ∙ steps) in
            let at_to : IsEntryAt t (set p.cells index to) (get_or p.cells index 0) f =
            subst (λ x. IsEntryAt t (set p.cells index x) (get_or p.cells index 0) f) same other.entry in
            entry_one t.pattern table.pattern t.entries (set p.cells index to) (get_or p.cells index 0) f e at_to entry

  -- ---- where there is no entry

  module _ (mv : Move) where
    none_in : (to j : ℕ) → step_of t.pattern.side (get_or p.cells index 0) mv ≡ Some to → (¬ IsSlot t.pattern.side p.cells to j)
        → IsLeastOf (IsEntryTowards t p.cells j index mv) 255
    none_in to j steps far = IsLeastOf-none (IsEntryTowards t p.cells j index mv)
        (λ e other. far (subst (λ x. IsSlot t.pattern.side p.cells x j) (Some-one other.to to (sym other.steps ∙ steps)) other.moves.in_slot))

    -- where a tile's move leads off the board, no slot has an entry after it
    pub none_off : step_of t.pattern.side (get_or p.cells index 0) mv ≡ None → NoneTowards t p.cells index mv
    none_off off j l = IsLeastOf-none (IsEntryTowards t p.cells j index mv) (λ e other. let bad : None ≡ Some other.to = sym off ∙ other.steps in cc)

    module _ (mask : ℕ → ℕ) (are : (j : ℕ) → j < slot_count t.pattern → IsRegion t.pattern.side p.cells j (mask j)) (to : ℕ)
        (steps : step_of t.pattern.side (get_or p.cells index 0) mv ≡ Some to) where
      -- where a tile's move leads into no slot's region, no slot has an entry after it
      pub none_found : ((j : ℕ) → j < slot_count t.pattern → bit_at (mask j) to ≡ 1 → ⊥) → NoneTowards t p.cells index mv
      none_found none j l = none_in to j steps (λ is. none j l ((are j l to).1 is))

      -- where a tile's move leads into a slot's region, the entry after it is found for that slot and for no other
      pub found_one : (slot e : ℕ) → slot < slot_count t.pattern → bit_at (mask slot) to ≡ 1 → e < 256
          → IsEntryAt t (set p.cells index to) (get_or p.cells index 0) e → IsFoundTowards t p.cells index mv slot e
      found_one slot e l inside fits entry = record {
        low = l;
        here = towards_some slot (mask slot) (are slot l) mv to e steps inside fits entry;
        others = λ j k ne. none_in to j steps (λ is. ne (slot_one t.pattern.side table.pattern.low table.pattern.high p.cells to j slot is
            ((are slot l to).0 inside)));
      }

  -- ---- the four moves

  abbrev Towards : ℕ → Move → ℕ → Type 0
  Towards j mv e = IsEntryTowards t p.cells j index mv e

  dropped : (j : ℕ) (mv : Move) (e : ℕ) → Towards j mv e → IsEntryAfter t p.cells j index e
  dropped j mv e other = record { to = other.to; moves = other.moves; entry = other.entry }

  split : (j e : ℕ) → IsEntryAfter t p.cells j index e → (Towards j Up e ⊎ Towards j Down e) ⊎ (Towards j Left e ⊎ Towards j Right e)
  split j e after = go after.moves.adjacent.1 (reverse_of-takes_back after.moves.adjacent.1 t.pattern.side after.to
      (get_or p.cells index 0) table.pattern.low table.pattern.high after.moves.in_slot.free.0 after.moves.adjacent.2)
    where
      with_steps : (mv : Move) → step_of t.pattern.side (get_or p.cells index 0) mv ≡ Some after.to → Towards j mv e
      with_steps mv steps = record { to = after.to; steps = steps; moves = after.moves; entry = after.entry }

      go : (mv : Move) → step_of t.pattern.side (get_or p.cells index 0) (reverse_of mv) ≡ Some after.to → (Towards j Up e ⊎ Towards j Down e)
          ⊎ (Towards j Left e ⊎ Towards j Right e)
      go Up steps = inl (inr (with_steps Down steps))
      go Down steps = inl (inl (with_steps Up steps))
      go Left steps = inr (inr (with_steps Right steps))
      go Right steps = inr (inl (with_steps Left steps))

  -- the first tiles, and the four moves of the next one
  pub taken_in : (j before up down left right : ℕ) → IsLeastOf (IsEntryAmong t p.cells j index) before → IsLeastOf (Towards j Up) up
      → IsLeastOf (Towards j Down) down → IsLeastOf (Towards j Left) left
      → IsLeastOf (Towards j Right) right → IsLeastOf (IsEntryAmong t p.cells j (index + 1)) (min (min (min (min before up) down) left) right)
  taken_in j before up down left right is is_up is_down is_left is_right =
      IsLeastOf-min WithLeft (Towards j Right) (IsEntryAmong t p.cells j (index + 1))
      (λ e h. elim h [
        | inl x ↦ elim x [
          | inl y ↦ elim y [ inl z ↦ earlier e z | inr z ↦ of_this e (dropped j Up e z) ]
          | inr y ↦ of_this e (dropped j Down e y)
        ]
        | inr x ↦ of_this e (dropped j Left e x)
      ])
      (λ e h. of_this e (dropped j Right e h)) either (min (min (min before up) down) left) right
      (IsLeastOf-min WithDown (Towards j Left) WithLeft (λ e x. inl x) (λ e x. inr x) (λ e x. x) (min (min before up) down) left
      (IsLeastOf-min WithUp (Towards j Down) WithDown (λ e x. inl x) (λ e x. inr x) (λ e x. x) (min before up) down
      (IsLeastOf-min (IsEntryAmong t p.cells j index) (Towards j Up) WithUp (λ e x. inl x) (λ e x. inr x) (λ e x. x) before up is is_up) is_down)
      is_left) is_right
    where
      WithUp : ℕ → Type 0
      WithUp e = IsEntryAmong t p.cells j index e ⊎ Towards j Up e

      WithDown : ℕ → Type 0
      WithDown e = WithUp e ⊎ Towards j Down e

      WithLeft : ℕ → Type 0
      WithLeft e = WithDown e ⊎ Towards j Left e

      earlier : (e : ℕ) → IsEntryAmong t p.cells j index e → IsEntryAmong t p.cells j (index + 1) e
      earlier e h = record { index = h.index; low = (let l : h.index < index = h.low in omega arith); after = h.after }

      of_this : (e : ℕ) → IsEntryAfter t p.cells j index e → IsEntryAmong t p.cells j (index + 1) e
      of_this e h = record { index = index; low = omega arith; after = h }

      either : (e : ℕ) → IsEntryAmong t p.cells j (index + 1) e → WithLeft e ⊎ Towards j Right e
      either e h = elim (cases_eq h.index index) [
        | inr ne ↦ inl (inl (inl (inl (record { index = h.index; low = (let l : h.index < index + 1 = h.low in omega arith); after = h.after }))))
        | inl same ↦ elim (split j e (subst (λ i. IsEntryAfter t p.cells j i e) same h.after)) [
          | inl x ↦ elim x [ inl u ↦ inl (inl (inl (inr u))) | inr d ↦ inl (inl (inr d)) ]
          | inr x ↦ elim x [ inl l ↦ inl (inr l) | inr r ↦ inr r ]
        ]
      ]

-- ---- the tiles, one after the other

module _ (t : Table) (cells : List ℕ) (j : ℕ) where
  -- the least entry after moves of no tile is 255
  pub among_none : IsLeastOf (IsEntryAmong t cells j 0) 255
  among_none = IsLeastOf-none (IsEntryAmong t cells j 0) (λ e h. let l : h.index < 0 = h.low in omega arith)

  -- the least entry of a slot after moves of any of its tiles is the slot's least near entry
  pub among_all : (index m : ℕ) → length cells ≤ index → IsLeastOf (IsEntryAmong t cells j index) m → IsLeastNear t cells j m
  among_all index m all = IsLeastOf-same (IsEntryAmong t cells j index) (IsNearEntry t cells j)
      (λ e h. record { index = h.index; to = h.after.to; moves = h.after.moves; entry = h.after.entry })
      (λ e h. record {
        index = h.index;
        low = (let l : h.index < length cells = h.moves.is_index in omega arith);
        after = record { to = h.to; moves = h.moves; entry = h.entry };
      })
      m
