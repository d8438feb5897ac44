-- What the entry of a board says in an exact table.
use Rattle.std.proofs.Common.{◌≡◌, ℕ, ◌+◌, ◌*◌, ◌<◌, ◌≤◌, cond, eqb, List, Option, Some, None, length, ap, inl, inr, refl, sym, ◌∙◌, subst, arith}
use Rattle.std.proofs.Common.{ne_eqb, eq-eqb}
use Rattle.std.specs.Prelude.{slice_index, IfSome}
use Rattle.std.proofs.lemmas.Bool.{cases_eq, cases_lt, cond-true, cond-false}
use Rattle.puz_board.specs.Boards.{IsBoard, IsBoardOf, blank, cell_of, side_of}
use Rattle.puz_board.proofs.BoardLemmas.{cells_least}
use Rattle.puz_board.proofs.BoardWays.{State}
use Rattle.pat_place.specs.BoardLaws.{HasBoard}
use Rattle.pat_place.specs.Patterns.{ShownPattern, IsPattern}
use Rattle.pat_place.specs.Placements.{ShownPlacement, IsFree, IsPlacement, cells_found, placement_of}
use Rattle.pat_place.specs.Ranks.{IsRank}
use Rattle.pat_place.specs.Regions.{IsLeader, IsSlot, here}
use Rattle.pat_place.proofs.BoardOf.{board_of}
use Rattle.pat_place.proofs.PlacementLemmas.{IsPlacement-of, cells_of_board}
use Rattle.pat_place.proofs.SlideLemmas.{IsFree-blank}
use Rattle.pat_place.proofs.SlotLemmas.{count_place, slot_some}
use Rattle.tab_file.specs.Tables.{Table, entry_at, slot_count}
use Rattle.tab_rule.specs.Counts.{TableSays}
use Rattle.tab_rule.specs.Entries.{HasRegion, IsEntryNumber}
use Rattle.tab_rule.specs.ExactTables.{IsExactTable, SaysOfBoard}
use Rattle.tab_rule.specs.declared.tables.Count.{Count}
use Rattle.tab_rule.specs.declared.tables.Count.TheVariants.{Finite, Never}
use Rattle.tab_rule.proofs.EntryLemmas.{entry_total}
use Rattle.tab_rule.proofs.EntryNumberLemmas.{entry_number, entry_placement}
use Rattle.tab_rule.proofs.NearLemmas.{IsFree-in, IsPlaced-in}

-- the placement of a board
abbrev pub placement_on : List ℕ → ShownPattern → ShownPlacement
placement_on b p = record { pattern = p; cells = placement_of p.tiles b }

-- the same where the cell of each number was found
pub placement_found : (b found : List ℕ) → IsBoard b → (p : ShownPattern) → IsPattern p → side_of b ≡ p.side
    → ((t : ℕ) → t < length b → slice_index found t ≡ cell_of t b) → (q : ShownPattern) → q ≡ p
    → record { pattern = q; cells = cells_found q.tiles found } ≡ placement_on b p
placement_found b found good p pat side each q same =
    ap {B = ShownPlacement} (λ x. record { pattern = x; cells = cells_found x.tiles found }) same ∙
    ap {B = ShownPlacement} (λ xs. record { pattern = p; cells = xs }) (cells_of_board b good p pat side found each)

-- the blank's cell is free
pub free_blank : (p : ShownPattern) → IsPattern p → (b : List ℕ) → IsBoard b → side_of b ≡ p.side → IsFree p.side (placement_of p.tiles b) (blank b)
free_blank p pat b good e =
    let board : IsBoardOf p.side b = subst (λ n. IsBoardOf n b) e good in
    IsFree-blank p.side p.tiles pat.tiles b board (let l = cells_least p.side b board in omega arith)

-- a property of what is found, if anything is, gives way to one that follows from it
pub if_some_more : (P Q : ℕ → Type 0) (found : Option ℕ) → ((j : ℕ) → P j → Q j) → IfSome found P → IfSome found Q
if_some_more P Q None more has = tt
if_some_more P Q (Some j) more has = more j has

-- ---- where the second slot has no region, all free cells are of the first

-- the slot below that of a free cell has a region
second_region : (n : ℕ) (cells : List ℕ) (c j : ℕ) → IsSlot n cells c j → 0 < j → HasRegion n cells 1
second_region n cells c j is l = elim (cases_eq j 1) [
  | inl one ↦ record { cell = c; in_slot = subst (IsSlot n cells c) one is }
  | inr more ↦
      let x = count_place (IsLeader n cells) is.leader j 1 is.below (omega arith) in
      record { cell = x.0; in_slot = record { free = x.2.0; leader = x.0; joined = here; is_leader = x.2; below = x.3 } }
]

-- a region's entry isn't 254
region_says : (t : Table) → IsExactTable t → (cells : List ℕ) (j number : ℕ) → IsEntryNumber t.pattern cells j number → HasRegion t.pattern.side cells j
    → slice_index t.entries number ≡ 254 → ⊥
region_says t is cells j number number_is has empty =
    let b : HasBoard (record { pattern = t.pattern; cells = cells }) has.cell =
    board_of (record { pattern = t.pattern; cells = cells }) is.is_table.pattern (entry_placement number_is) has.cell has.in_slot.free in
    let says = (is.exact cells j number number_is).boards b.board b.is_board b.places
    (subst (λ c. IsSlot t.pattern.side cells c j) (sym b.blank_cell) has.in_slot) in
    elim says [ inl h ↦ (let few = h.0 in omega arith) | inr h ↦ (let full = h.0 in omega arith) ]

-- where the second slot has entry 254, the slot of any free cell is the first
pub first_slot : (t : Table) → IsExactTable t → (cells : List ℕ) → IsPlacement (record { pattern = t.pattern; cells = cells }) → (r c j : ℕ)
    → IsRank t.pattern.side cells r
    → 1 < slot_count t.pattern → entry_at t r 1 ≡ 254 → IsSlot t.pattern.side cells c j → j ≡ 0
first_slot t is cells place r c j is_rank wide empty in_slot = elim (cases_lt 0 j) [
  | inr l ↦ omega arith
  | inl l ↦ absurd (
      region_says t is cells 1 (r * slot_count t.pattern + 1) (entry_number r place.size is_rank wide refl)
      (second_region t.pattern.side cells c j in_slot l) empty)
]

-- where the second slot has entry 254, each free cell is in the first slot
pub slot_first : (t : Table) → IsExactTable t → (cells : List ℕ) → IsPlacement (record { pattern = t.pattern; cells = cells }) → (r c : ℕ)
    → IsRank t.pattern.side cells r
    → 1 < slot_count t.pattern → entry_at t r 1 ≡ 254 → IsFree t.pattern.side cells c → IsSlot t.pattern.side cells c 0
slot_first t is cells place r c is_rank wide empty free =
    let some = slot_some t.pattern.side is.is_table.pattern.low is.is_table.pattern.high cells c free in
    subst (IsSlot t.pattern.side cells c) (first_slot t is cells place r c some.0 is_rank wide empty some.1) some.1

-- ---- what an exact table's entry says of a board
pub entry_says : (t : Table) → IsExactTable t → (b : List ℕ) → IsBoard b → side_of b ≡ t.pattern.side → (r j e : ℕ)
    → IsRank t.pattern.side (placement_of t.pattern.tiles b) r
    → IsSlot t.pattern.side (placement_of t.pattern.tiles b) (blank b) j → j < slot_count t.pattern → e ≡ entry_at t r j → SaysOfBoard t.pattern.tiles b e
entry_says t is b good side r j e is_rank is_slot slot_low holds =
    let number_is : IsEntryNumber t.pattern (placement_of t.pattern.tiles b) j (r * slot_count t.pattern + j) =
    entry_number r (IsPlacement-of b good t.pattern is.is_table.pattern side).size is_rank slot_low refl in
    let right = is.exact (placement_of t.pattern.tiles b) j (r * slot_count t.pattern + j) number_is in
    let board : IsBoardOf t.pattern.side b = subst (λ n. IsBoardOf n b) side good in
    subst (SaysOfBoard t.pattern.tiles b) (sym holds) (right.boards b board refl is_slot)

-- such an entry as a count
pub says-count : (tiles b : List ℕ) (e : ℕ) → SaysOfBoard tiles b e → TableSays tiles b (cond (eqb e 255) Never (Finite e))
says-count tiles b e says = elim says [
  | inl h ↦ subst (TableSays tiles b) (sym (cond-false (eqb e 255) Never (Finite e) (ne_eqb e 255 (λ full. let l = h.0 in omega arith)))) h.1
  | inr h ↦ subst (TableSays tiles b) (sym (cond-true (eqb e 255) Never (Finite e) (eq-eqb e 255 h.0))) h.1
]

-- a count that an entry of a board gives is at most 253
pub says-few : (tiles b : List ℕ) (e : ℕ) → SaysOfBoard tiles b e → (d : ℕ) → cond (eqb e 255) Never (Finite e) ≡ Finite d → d ≤ 253
says-few tiles b e says d is = elim says [
  | inl h ↦ let same : e ≡ d = (let f : cond (eqb e 255) Never (Finite e) ≡ Finite e =
      cond-false (eqb e 255) Never (Finite e) (ne_eqb e 255 (λ full. let l = h.0 in omega arith)) in cc) in let l = h.0 in omega arith
  | inr h ↦ absurd (let f : cond (eqb e 255) Never (Finite e) ≡ Never = cond-true (eqb e 255) Never (Finite e) (eq-eqb e 255 h.0) in
      let bad : Never ≡ Finite d = sym f ∙ is in cc)
]

-- an exact table tells a count of each board of its side
pub count_some : (t : Table) → IsExactTable t → (b : List ℕ) → IsBoardOf t.pattern.side b → (count : Count) × TableSays t.pattern.tiles b count
count_some t is b board =
    let pat = is.is_table.pattern in
    let s : State t.pattern.side = record { cells = b; good = board } in
    let e = entry_total t.pattern pat t.entries (placement_of t.pattern.tiles b) (blank b) (IsPlaced-in t.pattern pat s) (IsFree-in t.pattern pat s) in
    let right = is.exact (placement_of t.pattern.tiles b) e.1.slot e.1.number e.1.is_number in (
      cond (eqb e.0 255) Never (Finite e.0),
      says-count t.pattern.tiles b e.0
          (subst (SaysOfBoard t.pattern.tiles b) e.1.holds (right.boards b board refl e.1.is_slot)),
    )
