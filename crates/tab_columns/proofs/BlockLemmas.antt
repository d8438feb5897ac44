-- The columns of a block, and the entries that they stand for.
use Rattle.std.proofs.Common.{◌≡◌, ℕ, ◌+◌, ◌*◌, ◌/◌, ◌%◌, ◌<◌, ◌≤◌, ◌⊎◌, List, length, Some, get_or, inl, inr, sym, ◌∙◌, ap, subst, arith}
use Rattle.std.specs.Prelude.{slice_get}
use Rattle.std.proofs.lemmas.Bool.{cases_lt}
use Rattle.std.proofs.lemmas.Nat.{div-add-mod', mod_below}
use Rattle.std.proofs.lemmas.Option.{slice_get-get_or}
use Rattle.std.proofs.Math.Nat.{mul-le-mul_right}
use Rattle.pat_place.specs.Patterns.{ShownPattern, IsPattern}
use Rattle.pat_place.specs.Placements.{ShownPlacement, IsPlacement}
use Rattle.pat_place.specs.Ranks.{IsRank}
use Rattle.pat_place.proofs.RankLemmas.{IsRank-one}
use Rattle.pat_place.specs.Regions.{IsSlot}
use Rattle.pat_place.proofs.SlotLemmas.{slot_one}
use Rattle.tab_file.specs.Tables.{Table, IsTable, entry_count, placement_count, slot_count}
use Rattle.tab_rule.specs.Blocks.{IsInBlock}
use Rattle.tab_columns.specs.BlockColumns.{IsDescribed}
use Rattle.tab_columns.specs.Columns.{EachSlot, HaveRanks, IsKindByMask}
use Rattle.tab_rule.specs.Entries.{IsEntryNumber}
use Rattle.tab_rule.specs.LocalRule.{IsGoalSlot, IsKindOf, IsLeastNear}
use Rattle.tab_columns.specs.Moves.{IsRegion}
use Rattle.tab_rule.proofs.BlockLemmas.{rank_low}
use Rattle.tab_rule.proofs.EntryNumberLemmas.{entry_cells, entry_number}
use Rattle.tab_columns.proofs.OneEntryLemmas.{kind_of_mask}

-- where the goal's entry is
module _ (p : ShownPattern) (pat : IsPattern p) (first row j : ℕ) (v : ShownPlacement) (same : v.pattern ≡ p) (place : IsPlacement v)
    (is : IsRank p.side v.cells (first + row)) (slot : j < slot_count p)
    (goal k : ℕ) (number : IsEntryNumber p p.tiles k goal) (home : IsSlot p.side p.tiles 0 k) where
  -- an entry of a block whose number is the goal's is of the goal's placement and of the slot of cell 0
  pub goal_from_place : first * slot_count p + (row * slot_count p + j) ≡ goal → IsGoalSlot p v.cells j
  goal_from_place e =
      let counted : goal ≡ number.rank * slot_count p + k = number.counted in
      let k_low : k < slot_count p = number.slot in
      let low : first + row < number.rank + 1 = rank_low (first + row) j (slot_count p) (number.rank + 1) (omega arith) in
      let high : number.rank < first + row + 1 = rank_low number.rank k (slot_count p) (first + row + 1) (omega arith) in
      let one : first + row ≡ number.rank = omega arith in
      let scaled : (first + row) * slot_count p ≡ number.rank * slot_count p = ap (λ r. r * slot_count p) one in
      let slots : k ≡ j = omega arith in
      let cells : v.cells ≡ p.tiles =
      entry_cells number v.cells (first + row) (place.size ∙ ap (λ q. length q.tiles) same) is one in
      (cells, subst (λ q. IsSlot p.side q 0 j) (sym cells) (subst (IsSlot p.side p.tiles 0) slots home))

  -- the entry of the goal's placement and of cell 0's slot has, counted from the block's first entry on, the goal's number
  pub place_from_goal : IsGoalSlot p v.cells j → first * slot_count p + (row * slot_count p + j) ≡ goal
  place_from_goal g =
      let counted : goal ≡ number.rank * slot_count p + k = number.counted in
      let one : first + row ≡ number.rank = IsRank-one p.side p.tiles (first + row) number.rank
      (subst (λ q. IsRank p.side q (first + row)) g.0 is) number.is_placement in
      let scaled : (first + row) * slot_count p ≡ number.rank * slot_count p = ap (λ r. r * slot_count p) one in
      let slots : j ≡ k = slot_one p.side pat.low pat.high p.tiles 0 j k (subst (λ q. IsSlot p.side q 0 j) g.0 g.1) home in
      omega arith

module _ (t : Table) (table : IsTable t) (block count : ℕ) (ps : List ShownPlacement) (ranks : HaveRanks t.pattern (block * 256) ps) (long : length ps ≡ count)
    (most : count ≤ 256) (whole : (count ≡ 256) ⊎ (placement_count t.pattern ≤ block * 256 + count)) where
  abbrev begin : ℕ
  begin = block * 256 * slot_count t.pattern

  -- the entries from the first on are in the block
  pub inside_block : (i : ℕ) → i < count * slot_count t.pattern → IsInBlock t.pattern block (begin + i)
  inside_block i l =
      let all : count * slot_count t.pattern ≤ 256 * slot_count t.pattern = mul-le-mul_right (slot_count t.pattern) most in
      record { from = omega arith; to = omega arith }

  -- and no others are
  pub all_of_block : (number : ℕ) → IsInBlock t.pattern block number → number < entry_count t.pattern → number < begin + count * slot_count t.pattern
  all_of_block number inside low = elim whole [
    | inl full ↦
        let to : number < (block + 1) * 256 * slot_count t.pattern = inside.to in
        let scaled : count * slot_count t.pattern ≡ 256 * slot_count t.pattern = ap (λ k. k * slot_count t.pattern) full in
        omega arith
    | inr last ↦
        let all : placement_count t.pattern * slot_count t.pattern ≤ (block * 256 + count) * slot_count t.pattern =
        mul-le-mul_right (slot_count t.pattern) last in
        omega arith
  ]

  -- the columns describe each of them
  module _ (goal k : ℕ) (number : IsEntryNumber t.pattern t.pattern.tiles k goal) (home : IsSlot t.pattern.side t.pattern.tiles 0 k)
      (masks kinds least : List ℕ)
      (are_masks : EachSlot t.pattern ps (IsRegion t.pattern.side) (length ps) masks) (are_least : EachSlot t.pattern ps (IsLeastNear t) (length ps) least)
      (are_kinds : (i : ℕ) → i < 2048 → IsKindByMask (get_or masks i 0) (begin + i ≡ goal) (get_or kinds i 0)) where
    described_slot : (row j : ℕ) (v : ShownPlacement) → row < count → slice_get ps row ≡ Some v → j < slot_count t.pattern
        → row * slot_count t.pattern + j < 2048
        → IsDescribed t (begin + (row * slot_count t.pattern + j)) (get_or kinds (row * slot_count t.pattern + j) 0)
        (get_or least (row * slot_count t.pattern + j) 0)
    described_slot row j v l get slot fits =
        let i : ℕ = row * slot_count t.pattern + j in
        let inside : row < length ps = omega arith in
        let has = ranks row v get in
        let kind : IsKindOf t.pattern v.cells j (get_or kinds i 0) =
        kind_of_mask t.pattern table.pattern v.cells j (get_or masks i 0) (are_masks row j v inside get slot) (begin + i ≡ goal)
        (goal_from_place t.pattern table.pattern (block * 256) row j v has.0 has.1 has.2 slot goal k number home)
        (place_from_goal t.pattern table.pattern (block * 256) row j v has.0 has.1 has.2 slot goal k number home)
        (get_or kinds i 0) (are_kinds i fits) in
        let size = has.1.size ∙ ap (λ q. length q.tiles) has.0 in
        record {
          cells = v.cells;
          slot = j;
          is_number = entry_number (block * 256 + row) size has.2 slot (omega arith);
          is_kind = kind;
          is_least = are_least row j v inside get slot;
        }

    -- the columns describe the entry at each place of the block
    pub described_place : (place : ℕ) → place < count * slot_count t.pattern → place < 2048
        → IsDescribed t (begin + place) (get_or kinds place 0) (get_or least place 0)
    described_place place low fits =
        let some : 0 < slot_count t.pattern = elim (cases_lt 0 (slot_count t.pattern)) [
          | inl l ↦ l
          | inr l ↦ absurd (let none : count * slot_count t.pattern ≡ count * 0 =
              ap (λ w. count * w) (let z : slot_count t.pattern ≡ 0 = omega arith in z) in omega arith)
        ] in
        let row : ℕ = place / slot_count t.pattern in
        let j : ℕ = place % slot_count t.pattern in
        let slot : j < slot_count t.pattern = mod_below place (slot_count t.pattern) some in
        let parts : row * slot_count t.pattern + j ≡ place = div-add-mod' place (slot_count t.pattern) in
        let l : row < count = rank_low row j (slot_count t.pattern) count (omega arith) in
        let none : ShownPlacement = record { pattern = t.pattern; cells = t.pattern.tiles } in
        let get : slice_get ps row ≡ Some (get_or ps row none) = slice_get-get_or ps row none (omega arith) in
        subst (λ x. IsDescribed t (begin + x) (get_or kinds x 0) (get_or least x 0)) parts (described_slot row j (get_or ps row none) l get slot (omega arith))
