-- Each placement and free cell has one entry, and the entries give values: a count is itself, 254 and 255 are none.
use Rattle.std.proofs.Common.{◌≡◌, ℕ, ◌+◌, ◌*◌, ◌<◌, ◌≤◌, cond, ltb, ◌⊎◌, List, [], ◌∷◌, length, Option, Some, None, get_or, set, inl, inr, refl, sym}
use Rattle.std.proofs.Common.{◌∙◌, ap, subst, arith, lt-ltb, le-ltb}
use Rattle.std.specs.Prelude.{slice_index}
use Rattle.std.specs.List.{AllByRecursion}
use Rattle.std.proofs.lemmas.Bool.{cases_eq, cases_lt, cases_Bool, both_ways, cond-true, cond-false}
use Rattle.puz_board.specs.Boards.{blank}
use Rattle.puz_board.specs.Cells.{Adjacent}
use Rattle.puz_board.proofs.BoardWays.{State}
use Rattle.pat_place.specs.BoardLaws.{HasBoard}
use Rattle.pat_place.specs.Patterns.{ShownPattern, IsPattern, has, width}
use Rattle.pat_place.specs.Placements.{IsApart, IsFree}
use Rattle.pat_place.specs.Regions.{IsSlot, here, onward}
use Rattle.pat_place.proofs.BoardOf.{board_of}
use Rattle.pat_place.proofs.JoinLemmas.{Decided, free_decided}
use Rattle.pat_place.proofs.RankLemmas.{IsRank-one, IsRank-some}
use Rattle.pat_place.proofs.SlotLemmas.{least_below, region_slot, slot_one, slot_region, slot_some}
use Rattle.pat_place.proofs.WidthLemmas.{slot_within}
use Rattle.tab_file.specs.Tables.{slot_count}
use Rattle.tab_rule.specs.Entries.{HasNoRegion, HasRegion, IsEntryAt, IsEntryNumber}
use Rattle.tab_rule.specs.LocalRule.{IsNearEntry, MayMove}
use Rattle.tab_rule.proofs.EntryNumberLemmas.{entry_number, entry_rank}
use Rattle.tab_rule.proofs.NearLemmas.{IsFree-in, IsPlaced-in, one_from_near}
use Rattle.tab_rule.proofs.Values.{IsConstant, IsNear, IsPlaced, table}

-- ---- bytes and values

-- the value of an entry: a count is itself, and what is 254 or more is none
abbrev pub decode : ℕ → Option ℕ
decode e = cond (ltb e 254) (Some e) None

-- an entry below 254 is its own value, a count
pub decode_small : (e : ℕ) → e < 254 → decode e ≡ Some e
decode_small e l = cond-true (ltb e 254) (Some e) None (lt-ltb e 254 l)

-- an entry of 254 or more has no count as its value
pub decode_large : (e : ℕ) → 254 ≤ e → decode e ≡ None
decode_large e l = cond-false (ltb e 254) (Some e) None (le-ltb e 254 l)

-- where the value of an entry is a count, the entry is that count
pub decode_some : (e k : ℕ) → decode e ≡ Some k → e ≡ k
decode_some e k h = elim (cases_lt e 254) [
  | inl l ↦ some e k (sym (decode_small e l) ∙ h)
  | inr l ↦ absurd (let bad : None ≡ Some k = sym (decode_large e l) ∙ h in cc)
]
  where
    some : (a b : ℕ) → Some a ≡ Some b → a ≡ b
    some a b e = cc

-- ---- placements can be told

inside_decided : (m : ℕ) (cells : List ℕ) → Decided (AllByRecursion (λ c. c < m) cells)
inside_decided m [] = inl tt
inside_decided m (c ∷ cells) = elim (cases_lt c m) [
  | inl l ↦ elim (inside_decided m cells) [ inl h ↦ inl (l, h) | inr none ↦ inr (λ h. none h.1) ]
  | inr l ↦ inr (λ h. let k : c < m = h.0 in omega arith)
]

apart_decided : (cells : List ℕ) → Decided (IsApart cells)
apart_decided [] = inl tt
apart_decided (c ∷ cells) = elim (cases_Bool (has cells c)) [
  | inl t ↦ inr (λ h. both_ways (has cells c) h.0 t)
  | inr f ↦ elim (apart_decided cells) [ inl h ↦ inl (f, h) | inr none ↦ inr (λ h. none h.1) ]
]

-- whether cells are a placement of the pattern can be decided
pub placed_decided : (p : ShownPattern) (cells : List ℕ) → Decided (IsPlaced p cells)
placed_decided p cells = elim (cases_eq (length cells) (length p.tiles)) [
  | inr ne ↦ inr (λ h. ne h.size)
  | inl e ↦ elim (inside_decided (p.side * p.side) cells) [
    | inr none ↦ inr (λ h. none h.inside)
    | inl i ↦ elim (apart_decided cells) [ inl a ↦ inl (record { size = e; inside = i; apart = a }) | inr none ↦ inr (λ h. none h.apart) ]
  ]
]

module _ (p : ShownPattern) (pat : IsPattern p) where
  -- ---- slots

  slot_in : (cells : List ℕ) (c j : ℕ) → IsPlaced p cells → IsSlot p.side cells c j → j < slot_count p
  slot_in cells c j place is = subst (λ k. j < width p.side k) place.size (slot_within p.side pat.low pat.high cells c j place.inside place.apart is)

  -- whether a cell is in a given slot of a placement can be decided
  pub cell_decided : (cells : List ℕ) (j c : ℕ) → Decided (IsSlot p.side cells c j)
  cell_decided cells j c = elim (free_decided p.side cells c) [
    | inr none ↦ inr (λ h. none h.free)
    | inl free ↦
        let some = slot_some p.side pat.low pat.high cells c free in
        elim (cases_eq some.0 j) [
          | inl e ↦ inl (subst (λ i. IsSlot p.side cells c i) e some.1)
          | inr ne ↦ inr (λ h. ne (slot_one p.side pat.low pat.high cells c some.0 j some.1 h))
        ]
  ]

  -- a slot has a region, or it has none
  pub region_cases : (cells : List ℕ) (j : ℕ) → HasRegion p.side cells j ⊎ HasNoRegion p.side cells j
  region_cases cells j = elim (least_below (λ c. IsSlot p.side cells c j) (cell_decided cells j) (p.side * p.side)) [
    | inl h ↦ inl (record { cell = h.0; in_slot = h.2 })
    | inr none ↦ inr (λ c is. none c is.free.0 is)
  ]

  -- ---- the moves of a slot are those of each cell of its region

  -- a tile's move into a slot's region leads from each cell of the slot to a neighbour
  pub near_from_move : (cells : List ℕ) (c j index to : ℕ) → IsSlot p.side cells c j → MayMove p.side cells j index to
      → IsNear p.side cells c (set cells index to) (get_or cells index 0)
  near_from_move cells c j index to is move = record {
    to = to;
    joined = slot_region p.side pat.low pat.high cells c to j is move.in_slot;
    index = index;
    is_index = move.is_index;
    tile_cell = refl;
    adjacent = move.adjacent;
    moves = refl;
  }

  -- a neighbour of a cell is what a tile's move into the region of the cell's slot leads to
  pub move_from_near : (cells : List ℕ) (c j : ℕ) (q : List ℕ) (t : ℕ) → IsSlot p.side cells c j → (near : IsNear p.side cells c q t)
      → MayMove p.side cells j near.index near.to
  move_from_near cells c j q t is near = record {
    in_slot = region_slot p.side pat.low pat.high cells c near.to j near.joined is;
    is_index = near.is_index;
    adjacent = subst (λ x. Adjacent p.side near.to x) (sym near.tile_cell) near.adjacent;
  }

  -- the entry of a cell's neighbour is one move away from the entry of the cell's slot
  pub near_entry : (entries cells : List ℕ) (c j : ℕ) (q : List ℕ) (t x : ℕ) → IsSlot p.side cells c j → IsNear p.side cells c q t
      → IsEntryAt (table p entries) q t x
      → IsNearEntry (table p entries) cells j x
  near_entry entries cells c j q t x is near at_q = record {
    index = near.index;
    to = near.to;
    moves = move_from_near cells c j q t is near;
    entry = subst (λ r. IsEntryAt (table p entries) r (get_or cells near.index 0) x) near.moves
        (subst (λ d. IsEntryAt (table p entries) q d x) (sym near.tile_cell) at_q);
  }

  -- a neighbour is a placement, and the cell of its blank is free
  pub near_valid : (cells : List ℕ) (c : ℕ) (q : List ℕ) (t : ℕ) → IsPlaced p cells → IsFree p.side cells c → IsNear p.side cells c q t
      → IsPlaced p q × IsFree p.side q t
  near_valid cells c q t place free near =
      let has : HasBoard (record { pattern = p; cells = cells }) c = board_of (record { pattern = p; cells = cells }) pat place c free in
      let s : State p.side = record { cells = has.board; good = has.is_board } in
      let u = one_from_near p pat s cells c q t has.places has.blank_cell near in (
        subst (IsPlaced p) u.2 (IsPlaced-in p pat u.0),
        subst (λ x. IsFree p.side q x) u.3
            (subst (λ y. IsFree p.side y (blank u.0.cells)) u.2 (IsFree-in p pat u.0)),
      )

  -- ---- entries

  -- a placement and a slot have one number of an entry alone
  pub number_one : (cells : List ℕ) (j a b : ℕ) → IsEntryNumber p cells j a → IsEntryNumber p cells j b → a ≡ b
  number_one cells j a b is also =
      let same = IsRank-one p.side cells is.rank also.rank (entry_rank is) (entry_rank also) in
      is.counted ∙ ap (λ r. r * slot_count p + j) same ∙ sym also.counted

  -- a placement and the slot of one of its cells have a number of an entry
  pub number_some : (cells : List ℕ) (c j : ℕ) → IsPlaced p cells → IsSlot p.side cells c j → (number : ℕ) × IsEntryNumber p cells j number
  number_some cells c j place is =
      let r = IsRank-some p.side cells place.inside place.apart in
      (r.0 * slot_count p + j, entry_number r.0 place.size r.1 (slot_in cells c j place is) refl)

  module _ (entries : List ℕ) where
    -- each placement and free cell has an entry, whatever the bytes are
    pub entry_total : (cells : List ℕ) (c : ℕ) → IsPlaced p cells → IsFree p.side cells c → (e : ℕ) × IsEntryAt (table p entries) cells c e
    entry_total cells c place free =
        let j = slot_some p.side pat.low pat.high cells c free in
        let k = number_some cells c j.0 place j.1 in
        (slice_index entries k.0, record { slot = j.0; is_slot = j.1; number = k.0; is_number = k.1; holds = refl })

    -- a placement and a free cell have one entry alone
    pub entry_one : (cells : List ℕ) (c e f : ℕ) → IsEntryAt (table p entries) cells c e → IsEntryAt (table p entries) cells c f → e ≡ f
    entry_one cells c e f is also =
        let same : is.slot ≡ also.slot = slot_one p.side pat.low pat.high cells c is.slot also.slot is.is_slot also.is_slot in
        sym is.holds ∙
        ap (slice_index entries) (number_one cells also.slot is.number also.number
        (subst (λ j. IsEntryNumber p cells j is.number) same is.is_number) also.is_number) ∙
        also.holds

    -- ---- the values of the entries

    valued : (cells : List ℕ) (c : ℕ) → Decided (IsPlaced p cells) → Decided (IsFree p.side cells c) → Option ℕ
    valued cells c (inl place) (inl free) = decode (entry_total cells c place free).0
    valued cells c (inl place) (inr none) = None
    valued cells c (inr none) f = None

    valued-is : (cells : List ℕ) (c e : ℕ) (a : Decided (IsPlaced p cells)) (f : Decided (IsFree p.side cells c)) → IsPlaced p cells
        → IsFree p.side cells c → IsEntryAt (table p entries) cells c e
        → valued cells c a f ≡ decode e
    unfolding valued
    valued-is cells c e (inl place) (inl free) pl fr is =
        ap decode (entry_one cells c (entry_total cells c place free).0 e (entry_total cells c place free).1 is)
    valued-is cells c e (inl place) (inr none) pl fr is = absurd (none fr)
    valued-is cells c e (inr none) f pl fr is = absurd (none pl)

    -- the value of a placement and a free cell by their entry, and none for all else
    pub value : List ℕ → ℕ → Option ℕ
    value cells c = valued cells c (placed_decided p cells) (free_decided p.side cells c)

    -- the value of a placement and a free cell is that of the entry they have
    pub value-is : (cells : List ℕ) (c e : ℕ) → IsPlaced p cells → IsFree p.side cells c → IsEntryAt (table p entries) cells c e → value cells c ≡ decode e
    unfolding value
    value-is cells c e place free is = valued-is cells c e (placed_decided p cells) (free_decided p.side cells c) place free is

    -- the cells of one region have one value
    pub value-constant : IsConstant p value
    value-constant cells c d place free_c free_d adj =
        let e = entry_total cells c place free_c in
        let at_d : IsEntryAt (table p entries) cells d e.0 = record {
          slot = e.1.slot;
          is_slot = region_slot p.side pat.low pat.high cells c d e.1.slot (onward adj free_d here) e.1.is_slot;
          number = e.1.number;
          is_number = e.1.is_number;
          holds = e.1.holds;
        } in
        value-is cells d e.0 place free_d at_d ∙ sym (value-is cells c e.0 place free_c e.1)
