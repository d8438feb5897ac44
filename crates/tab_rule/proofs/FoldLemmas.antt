-- What the least entry of a placement says of the placement's boards.
use Rattle.std.proofs.Common.{◌≡◌, ◌≢◌, ℕ, ◌+◌, ◌*◌, ◌<◌, ◌≤◌, List, [], ◌∷◌, ◌++◌, zero, suc, ◌⊎◌, cond, eqb, length, take, drop, get_or, inl, inr}
use Rattle.std.proofs.Common.{refl, sym, ◌∙◌, ap, subst, arith, length-drop, ne_eqb, eq-eqb}
use Rattle.std.specs.Prelude.{min, slice_index}
use Rattle.std.proofs.lemmas.Bool.{cases_lt, cond-false, cond-true}
use Rattle.std.proofs.lemmas.List.{get_or-drop, get_or-take, length-take-le}
use Rattle.std.proofs.Math.Nat.{mul-le-mul_right}
use Rattle.puz_board.specs.Boards.{IsBoard, IsBoardOf, blank, side_of}
use Rattle.puz_board.specs.Costs.{LeadsHome, cost}
use Rattle.puz_board.proofs.BoardLemmas.{cells_least, side_of-board}
use Rattle.pat_place.specs.BoardLaws.{HasBoard}
use Rattle.pat_place.specs.Patterns.{ShownPattern, width}
use Rattle.pat_place.specs.Placements.{IsFree, IsPlacement, placement_of}
use Rattle.pat_place.specs.Ranks.{IsRank, placements}
use Rattle.pat_place.specs.Regions.{IsSlot}
use Rattle.pat_place.proofs.BoardOf.{board_of}
use Rattle.pat_place.proofs.PlacementLemmas.{IsPlacement-of}
use Rattle.pat_place.proofs.RankLemmas.{IsRank-below, IsRank-some}
use Rattle.pat_place.proofs.SlideLemmas.{IsFree-blank}
use Rattle.pat_place.proofs.SlotLemmas.{slot_some}
use Rattle.pat_place.proofs.WidthLemmas.{slot_within}
use Rattle.tab_file.specs.Tables.{Table, entry_at, placement_count, slot_count}
use Rattle.tab_rule.specs.Entries.{IsEntryNumber}
use Rattle.tab_rule.specs.ExactTables.{IsExactTable, SaysOfBoard}
use Rattle.tab_rule.specs.FoldedTables.{AreFolded, HasFoldedTable, IsFoldedCost, FoldedTableSays, IsFoldedNever, SaysOfPlacement}
use Rattle.tab_rule.specs.LeastEntries.{IsLeastEntry}
use Rattle.tab_rule.specs.declared.tables.Count.{Count}
use Rattle.tab_rule.specs.declared.tables.Count.TheVariants.{Finite, Never}
use Rattle.tab_rule.proofs.EntryLemmas.{region_cases}
use Rattle.tab_rule.proofs.EntryNumberLemmas.{entry_number}

-- ---- the least of some entries

-- the least entry of no entries is 255, that of no way home
pub least_none : IsLeastEntry [] 255
least_none = record { bound = λ j low. absurd (omega arith); reached = inl refl }

old : (ys : List ℕ) (e j : ℕ) → j < length ys → get_or (ys ++ e ∷ []) j 0 ≡ get_or ys j 0
old [] e j low = absurd (omega arith)
old (y ∷ ys) e zero low = refl
old (y ∷ ys) e (suc j) low = old ys e j (omega arith)

new : (ys : List ℕ) (e : ℕ) → get_or (ys ++ e ∷ []) (length ys) 0 ≡ e
new [] e = refl
new (y ∷ ys) e = new ys e

long : (ys : List ℕ) (e : ℕ) → length (ys ++ e ∷ []) ≡ length ys + 1
long [] e = refl
long (y ∷ ys) e = let h : length (ys ++ e ∷ []) ≡ length ys + 1 = long ys e in omega arith

module _ (xs : List ℕ) (e least : ℕ) (is : IsLeastEntry xs least) where
  -- an entry more, which is 254, or the lesser of the two
  pub least_more : (m : ℕ) → (((e ≡ 254) × (m ≡ least)) ⊎ ((e ≢ 254) × (m ≡ min least e))) → IsLeastEntry (xs ++ e ∷ []) m
  least_more m how = record { bound = bound; reached = elim how [ inl h ↦ kept h.1 | inr h ↦ chosen h.0 h.1 ] }
    where
      bound : (j : ℕ) → j < length (xs ++ e ∷ []) → (get_or (xs ++ e ∷ []) j 0 ≡ 254) ⊎ (m ≤ get_or (xs ++ e ∷ []) j 0)
      bound j low = elim (cases_lt j (length xs)) [
        | inl within ↦
            let same : get_or (xs ++ e ∷ []) j 0 ≡ get_or xs j 0 = old xs e j within in
            elim (is.bound j within) [
              | inl empty ↦ inl (same ∙ empty)
              | inr above ↦ inr (let under : least ≤ get_or xs j 0 = above in elim how [
                | inl h ↦ let k : m ≡ least = h.1 in omega arith
                | inr h ↦ let k : m ≡ min least e = h.1 in omega arith
              ])
            ]
        | inr behind ↦
            let last : j ≡ length xs = (let l : j < length (xs ++ e ∷ []) = low in let k = long xs e in omega arith) in
            let same : get_or (xs ++ e ∷ []) j 0 ≡ e = ap (λ k. get_or (xs ++ e ∷ []) k 0) last ∙ new xs e in
            elim how [
              | inl h ↦ inl (same ∙ h.0)
              | inr h ↦ inr (let k : m ≡ min least e = h.1 in omega arith)
            ]
      ]

      kept : m ≡ least → (m ≡ 255) ⊎ ((j : ℕ) × (j < length (xs ++ e ∷ [])) × (get_or (xs ++ e ∷ []) j 0 ≡ m) × (¬ (m ≡ 254)))
      kept same = elim is.reached [
        | inl none ↦ inl (same ∙ none)
        | inr at ↦ inr (
          at.0,
          let l : at.0 < length xs = at.1 in let k = long xs e in
              omega arith,
          old xs e at.0 at.1 ∙ at.2 ∙ sym same,
          λ bad. at.3 (sym same ∙ bad),
        )
      ]

      chosen : e ≢ 254 → m ≡ min least e → (m ≡ 255) ⊎ ((j : ℕ) × (j < length (xs ++ e ∷ [])) × (get_or (xs ++ e ∷ []) j 0 ≡ m) × (¬ (m ≡ 254)))
      chosen some is_min = elim (cases_lt e least) [
        | inl less ↦ let same : m ≡ e = omega arith in inr (length xs, let k = long xs e in omega arith, new xs e ∙ sym same, λ bad. some (sym same ∙ bad))
        | inr more ↦ kept (let k : least ≤ e = more in omega arith)
      ]

-- ---- what it says of a placement

module _ (t : Table) (is : IsExactTable t) (cells : List ℕ) (place : IsPlacement (record { pattern = t.pattern; cells = cells })) (r : ℕ)
    (is_rank : IsRank t.pattern.side cells r) where
  number_is : (j : ℕ) → j < slot_count t.pattern → IsEntryNumber t.pattern cells j (r * slot_count t.pattern + j)
  number_is j low = entry_number r place.size is_rank low refl

  -- each board of the placement has a slot, and its entry says the board's least cost
  record Said (b : List ℕ) : Type 0 where
    slot : ℕ
    low : slot < slot_count t.pattern
    says : SaysOfBoard t.pattern.tiles b (entry_at t r slot)

  said : (b : List ℕ) → IsBoardOf t.pattern.side b → placement_of t.pattern.tiles b ≡ cells → Said b
  said b board places =
      let n : ℕ = t.pattern.side in
      let free : IsFree n cells (blank b) = subst (λ cs. IsFree n cs (blank b)) places
      (IsFree-blank n t.pattern.tiles is.is_table.pattern.tiles b board (let l = cells_least n b board in omega arith)) in
      let some = slot_some n is.is_table.pattern.low is.is_table.pattern.high cells (blank b) free in
      let low : some.0 < slot_count t.pattern = subst (λ k. some.0 < width t.pattern.side k) place.size
      (slot_within n is.is_table.pattern.low is.is_table.pattern.high cells (blank b) some.0 place.inside place.apart some.1) in
      record {
        slot = some.0;
        low = low;
        says = (is.exact cells some.0 (r * slot_count t.pattern + some.0) (number_is some.0 low)).boards b board
            places some.1;
      }

  module _ (part : List ℕ) (each : (j : ℕ) → j < slot_count t.pattern → slice_index part j ≡ entry_at t r j)
      (size : length part ≡ slot_count t.pattern) (f : ℕ) (least : IsLeastEntry part f) where
    -- an entry that says something of a board is 254 never, and bounds the least one
    above : (b : List ℕ) → (h : Said b) → f ≤ entry_at t r h.slot
    above b h =
        let same : slice_index part h.slot ≡ entry_at t r h.slot = each h.slot h.low in
        elim (least.bound h.slot (let l : h.slot < slot_count t.pattern = h.low in let s : length part ≡ slot_count t.pattern = size in omega arith)) [
          | inl empty ↦ elim h.says [
            | inl x ↦ let few : entry_at t r h.slot ≤ 253 = x.0 in omega arith
            | inr x ↦ let full : entry_at t r h.slot ≡ 255 = x.0 in omega arith
          ]
          | inr under ↦ let u : f ≤ slice_index part h.slot = under in omega arith
        ]

    none_home : f ≡ 255 → IsFoldedNever t.pattern.side t.pattern.tiles cells
    none_home full b board places =
        let h = said b board places in
        let l : f ≤ entry_at t r h.slot = above b h in
        elim h.says [ inl x ↦ absurd (let few : entry_at t r h.slot ≤ 253 = x.0 in omega arith) | inr x ↦ x.1 ]

    under : (b path : List ℕ) → IsBoardOf t.pattern.side b → placement_of t.pattern.tiles b ≡ cells → LeadsHome t.pattern.tiles b path
        → f ≤ cost t.pattern.tiles b path
    under b path board places leads =
        let h = said b board places in
        let l : f ≤ entry_at t r h.slot = above b h in
        elim h.says [
          | inl x ↦ let m : entry_at t r h.slot ≤ cost t.pattern.tiles b path = x.1.least path leads in omega arith
          | inr x ↦ absurd (x.1 path leads)
        ]

    reached : (j : ℕ) → j < slot_count t.pattern → entry_at t r j ≡ f → f ≢ 254 → SaysOfPlacement t.pattern cells f
    reached j low holds some = elim (region_cases t.pattern is.is_table.pattern cells j) [
      | inr none ↦ absurd (some (sym holds ∙ (is.exact cells j (r * slot_count t.pattern + j) (number_is j low)).no_region none))
      | inl has ↦
          let b : HasBoard (record { pattern = t.pattern; cells = cells }) has.cell =
          board_of (record { pattern = t.pattern; cells = cells }) is.is_table.pattern place has.cell has.in_slot.free in
          let says = (is.exact cells j (r * slot_count t.pattern + j) (number_is j low)).boards b.board b.is_board b.places
          (subst (λ c. IsSlot t.pattern.side cells c j) (sym b.blank_cell) has.in_slot) in
          elim (subst (SaysOfBoard t.pattern.tiles b.board) holds says) [
            | inl x ↦ inl (x.0, record { board = b.board; is_board = b.is_board; places = b.places; costs = x.1; least = under })
            | inr x ↦ inr (x.0, none_home x.0)
          ]
    ]

    -- the least of a placement's entries says the least cost of its boards, or that none comes home
    pub least_says : SaysOfPlacement t.pattern cells f
    least_says = elim least.reached [
      | inl full ↦ inr (full, none_home full)
      | inr at ↦
          let low : at.0 < slot_count t.pattern = (let l : at.0 < length part = at.1 in let s : length part ≡ slot_count t.pattern = size in omega arith) in
          reached at.0 low (sym (each at.0 low) ∙ at.2) at.3
    ]

-- ---- a folded table

-- the entries of a rank
abbrev pub part_of : Table → ℕ → List ℕ
part_of t r = take (slot_count t.pattern) (drop (r * slot_count t.pattern) t.entries)

module _ (t : Table) (is : IsExactTable t) (r : ℕ) (below : r < placement_count t.pattern) where
  -- the entries of a rank end within the table's entries
  pub within : r * slot_count t.pattern + slot_count t.pattern ≤ length t.entries
  within =
      let s : length t.entries ≡ placement_count t.pattern * slot_count t.pattern = is.is_table.entries in
      let next : (r + 1) * slot_count t.pattern ≤ placement_count t.pattern * slot_count t.pattern =
      mul-le-mul_right (slot_count t.pattern) (let k : r + 1 ≤ placement_count t.pattern = omega arith in k) in
      omega arith

  -- the part of the entries that belongs to a rank has one for each slot
  pub part_size : length (part_of t r) ≡ slot_count t.pattern
  part_size = length-take-le (slot_count t.pattern) (drop (r * slot_count t.pattern) t.entries)
      (let l = length-drop (r * slot_count t.pattern) t.entries in let w = within in omega arith)

  -- the part of the entries that belongs to a rank has at each slot that slot's entry
  pub part_each : (j : ℕ) → j < slot_count t.pattern → slice_index (part_of t r) j ≡ entry_at t r j
  part_each j low = get_or-take (slot_count t.pattern) (drop (r * slot_count t.pattern) t.entries) j 0 low
      ∙ get_or-drop (r * slot_count t.pattern) t.entries j 0

-- so many ranks are folded
pub record AreFoldedBelow (t : Table) (count : ℕ) (folded : List ℕ) : Type 0 where
  pub size : length folded ≡ count
  pub each : (r : ℕ) → r < count → IsLeastEntry (part_of t r) (slice_index folded r)

-- with no rank done, no entry is folded
pub folded_none : (t : Table) → AreFoldedBelow t 0 []
folded_none t = record { size = refl; each = λ r low. absurd (omega arith) }

-- with the least entry of the next rank put behind, one rank more is folded
pub folded_more : (t : Table) (count : ℕ) (folded : List ℕ) (e : ℕ) → AreFoldedBelow t count folded → IsLeastEntry (part_of t count) e
    → AreFoldedBelow t (count + 1) (folded ++ e ∷ [])
folded_more t count folded e are is = record {
  size = let k = long folded e in let s : length folded ≡ count = are.size in omega arith;
  each = λ r low. elim (cases_lt r count) [
    | inl before ↦ subst (IsLeastEntry (part_of t r)) (sym (old folded e r (let s : length folded ≡ count = are.size in omega arith))) (are.each r before)
    | inr after ↦
        let same : r ≡ length folded = (let s : length folded ≡ count = are.size in omega arith) in
        let at : get_or (folded ++ e ∷ []) r 0 ≡ e = ap (λ k. get_or (folded ++ e ∷ []) k 0) same ∙ new folded e in
        subst (λ k. IsLeastEntry (part_of t k) (get_or (folded ++ e ∷ []) r 0))
        (let k : count ≡ r = (let s : length folded ≡ count = are.size in omega arith) in k) (subst (IsLeastEntry (part_of t count)) (sym at) is)
  ];
}

-- with all ranks of an exact table folded, the entries are those of a folded table
pub folded_all : (t : Table) → IsExactTable t → (folded : List ℕ) → AreFoldedBelow t (placement_count t.pattern) folded → AreFolded t.pattern folded
folded_all t is folded are = record {
  size = are.size;
  each = λ cells r place is_rank.
      let below : r < placement_count t.pattern = subst (λ k. r < length (placements t.pattern.side k)) place.size
      (IsRank-below t.pattern.side cells r is_rank) in
      least_says t is cells place r is_rank (part_of t r) (part_each t is r below) (part_size t is r below) (slice_index folded r) (are.each r below);
}

-- ---- a folded table tells a count of each board of its side

-- what a folded entry says of a board's placement is, as a count or never, what the folded table tells of the board
pub says-folded : (p : ShownPattern) (b : List ℕ) → side_of b ≡ p.side → (e : ℕ) → SaysOfPlacement p (placement_of p.tiles b) e
    → FoldedTableSays p.tiles b (cond (eqb e 255) Never (Finite e))
says-folded p b side e says = elim says [
  | inl h ↦
      let finite : Finite e ≡ cond (eqb e 255) Never (Finite e) =
      sym (cond-false (eqb e 255) Never (Finite e) (ne_eqb e 255 (λ full. let l = h.0 in omega arith))) in
      subst (FoldedTableSays p.tiles b) finite (subst (λ n. IsFoldedCost n p.tiles (placement_of p.tiles b) e) (sym side) h.1)
  | inr h ↦
      let never : Never ≡ cond (eqb e 255) Never (Finite e) = sym (cond-true (eqb e 255) Never (Finite e) (eq-eqb e 255 h.0)) in
      subst (FoldedTableSays p.tiles b) never (subst (λ n. IsFoldedNever n p.tiles (placement_of p.tiles b)) (sym side) h.1)
]

-- a folded table tells a count or never of each board of its side
pub folded_some : (p : ShownPattern) → HasFoldedTable p → (b : List ℕ) → IsBoardOf p.side b → (count : Count) × FoldedTableSays p.tiles b count
folded_some p is b board =
    let side : side_of b ≡ p.side = side_of-board p.side b board in
    let good : IsBoard b = subst (λ n. IsBoardOf n b) (sym side) board in
    let place = IsPlacement-of b good p is.pattern side in
    let r = IsRank-some p.side (placement_of p.tiles b) place.inside place.apart in
    let e : ℕ = slice_index is.entries r.0 in
    (cond (eqb e 255) Never (Finite e), says-folded p b side e (is.are.each (placement_of p.tiles b) r.0 place r.1))

-- ---- a folded count and the paths of a board

-- a folded table tells of a board with a path home a count that is at most the path's cost
pub folded_bound : (tiles b : List ℕ) → IsBoard b → (count : Count) → FoldedTableSays tiles b count → (path : List ℕ) → LeadsHome tiles b path
    → (d : ℕ) × (count ≡ Finite d) × (d ≤ cost tiles b path)
folded_bound tiles b board (Finite d) is path leads = (d, refl, is.least b path board refl leads)
folded_bound tiles b board Never is path leads = absurd (is b board refl path leads)
