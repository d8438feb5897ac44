-- The entries of an exact table are settled by its pattern.
use Rattle.std.proofs.Common.{◌≡◌, ◌∙◌, ◌<◌, ◌+◌, ◌*◌, ◌/◌, ◌%◌, inl, inr, ap, ℕ, suc, zero, List, [], ◌∷◌, Some, arith, length, refl, subst, sym}
use Rattle.std.specs.Prelude.{slice_get, slice_index}
use Rattle.std.specs.List.{range_with_len}
use Rattle.std.proofs.lemmas.Bool.{cases_eq, cases_lt}
use Rattle.std.proofs.Math.Nat.{div-add-mod, mod-lt}
use Rattle.std.proofs.lemmas.List.{ext_get_or}
use Rattle.pat_place.specs.Patterns.{IsPattern, ShownPattern}
use Rattle.pat_place.specs.Placements.{IsPlacement}
use Rattle.pat_place.specs.Ranks.{placements}
use Rattle.pat_place.specs.Regions.{IsSlot}
use Rattle.pat_place.proofs.BoardOf.{board_of}
use Rattle.pat_place.proofs.JoinLemmas.{Decided, free_decided}
use Rattle.pat_place.proofs.RankLemmas.{inside_from, placement_of_rank}
use Rattle.pat_place.proofs.SlotLemmas.{least_below, slot_one, slot_some}
use Rattle.tab_file.specs.Tables.{IsTable, Table, entry_count, placement_count, slot_count}
use Rattle.tab_rule.specs.Entries.{HasNoRegion, IsEntryNumber}
use Rattle.tab_rule.specs.ExactTables.{AreExact, IsExactEntry, SaysOfBoard}
use Rattle.tab_rule.proofs.BlockLemmas.{rank_low}

-- ---- one entry

says_one : (tiles b : List ℕ) (d e : ℕ) → SaysOfBoard tiles b d → SaysOfBoard tiles b e → d ≡ e
says_one tiles b d e (inl p) (inl q) =
    let less = p.1.least q.1.path q.1.leads in
    let more = q.1.least p.1.path p.1.leads in
    let of_p = p.1.costs in
    let of_q = q.1.costs in
    omega (arith, less, more, of_p, of_q)
says_one tiles b d e (inl p) (inr q) = absurd (q.1 p.1.path p.1.leads)
says_one tiles b d e (inr p) (inl q) = absurd (p.1 q.1.path q.1.leads)
says_one tiles b d e (inr p) (inr q) = p.0 ∙ sym q.0

module _ (p : ShownPattern) (pattern : IsPattern p) (cells : List ℕ) (placed : IsPlacement (record { pattern = p; cells = cells })) (j : ℕ) where
  slot_decided : (c : ℕ) → Decided (IsSlot p.side cells c j)
  slot_decided c = elim (free_decided p.side cells c) [
    | inr taken ↦ inr (λ slot. taken slot.free)
    | inl free ↦
        let some = slot_some p.side pattern.low pattern.high cells c free in
        elim (cases_eq some.0 j) [
          | inl same ↦ inl (subst (IsSlot p.side cells c) same some.1)
          | inr other ↦ inr (λ slot. other (slot_one p.side pattern.low pattern.high cells c some.0 j some.1 slot))
        ]
  ]

  entry_one : (d e : ℕ) → IsExactEntry p cells j d → IsExactEntry p cells j e → d ≡ e
  entry_one d e a b = elim (least_below (λ c. IsSlot p.side cells c j) slot_decided (p.side * p.side)) [
    | inr none ↦
        let no_region : HasNoRegion p.side cells j = λ c slot. none c slot.free.0 slot in
        a.no_region no_region ∙ sym (b.no_region no_region)
    | inl found ↦
        let has = board_of (record { pattern = p; cells = cells }) pattern placed found.0 found.2.free in
        let slot = subst (λ x. IsSlot p.side cells x j) (sym has.blank_cell) found.2 in
        says_one p.tiles has.board d e (a.boards has.board has.is_board has.places slot) (b.boards has.board has.is_board has.places slot)
  ]

-- ---- all of them

-- a list has an element at each place
got : {A : Type 0} (xs : List A) (i : ℕ) → i < length xs → (x : A) × (slice_get xs i ≡ Some x)
got [] i low = absurd (omega (arith, low))
got (x ∷ xs) zero low = (x, refl)
got (x ∷ xs) (suc i) low = got xs i (omega (arith, low))

-- the cells at a rank are a placement
placed_at : (p : ShownPattern) (rank : ℕ) (cells : List ℕ) → slice_get (placements p.side (length p.tiles)) rank ≡ Some cells
    → IsPlacement (record { pattern = p; cells = cells })
unfolding placements
placed_at p rank cells there =
    let is = placement_of_rank (length p.tiles) (range_with_len 0 (p.side * p.side)) rank cells there in
    record { size = is.0; inside = inside_from (p.side * p.side) cells is.2; apart = is.1 }

-- a number below the count of entries is that of a placement and a slot
number_of : (p : ShownPattern) (number : ℕ) → number < placement_count p * slot_count p → (cells : List ℕ) × (j : ℕ) × IsEntryNumber p cells j number
number_of p number low =
    let w = slot_count p in
    let some : 0 < w = elim (cases_lt 0 w) [
      | inl more ↦ more
      | inr none ↦
          let zero_width : w ≡ 0 = omega (arith, none) in
          let small = subst (λ k. number < placement_count p * k) zero_width low in
          absurd (omega (arith, small))
    ] in
    let split = div-add-mod number w in
    let whole : number ≡ number / w * w + number % w = omega (arith, split) in
    let below : number / w < placement_count p =
    rank_low (number / w) (number % w) w (placement_count p) (subst (λ k. k < placement_count p * w) whole low) in
    let cells = got (placements p.side (length p.tiles)) (number / w) below in
    (cells.0, number % w, record { rank = number / w; is_placement = cells.1; slot = mod-lt number some; counted = whole })

-- two exact tables of one pattern have the same entries
pub entries_one : (t u : Table) → t.pattern ≡ u.pattern → IsTable t → IsTable u → AreExact t → AreExact u → t.entries ≡ u.entries
entries_one t u same table other exact also =
    ext_get_or 0 t.entries u.entries (table.entries ∙ ap entry_count same ∙ sym other.entries)
    (λ i low.
    let size = table.entries in
    let found = number_of t.pattern i (omega (arith, low, size)) in
    let cells = found.0 in
    let j = found.1 in
    let is = found.2 in
    let there = also cells j i (subst (λ q. IsEntryNumber q cells j i) same is) in
    let here = subst (λ q. IsExactEntry q cells j (slice_index u.entries i)) (sym same) there in
    entry_one t.pattern table.pattern cells (placed_at t.pattern is.rank cells is.is_placement) j (slice_index t.entries i) (slice_index u.entries i)
    (exact cells j i is) here)
