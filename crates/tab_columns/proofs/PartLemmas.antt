-- The parts of a block's columns are those of its entries.
use Rattle.std.proofs.Common.{◌≡◌, ℕ, ◌+◌, ◌-◌, ◌*◌, ◌/◌, ◌<◌, ◌≤◌, ◌⊎◌, List, length, min, get_or, inl, inr, sym, ◌∙◌, ap, subst, arith}
use Rattle.std.proofs.lemmas.Bool.{cases_lt}
use Rattle.std.proofs.Math.Nat.{mul-le-mul_right}
use Rattle.pat_place.specs.Patterns.{ShownPattern}
use Rattle.pat_place.specs.Placements.{ShownPlacement}
use Rattle.tab_file.specs.Tables.{Table, IsTable, placement_count, slot_count}
use Rattle.tab_columns.specs.BlockColumns.{AreBlockColumns}
use Rattle.tab_columns.specs.Columns.{EachSlot, HaveRanks, IsKindByMask}
use Rattle.tab_rule.specs.Entries.{IsGoalNumber}
use Rattle.tab_rule.specs.LocalRule.{IsLeastNear}
use Rattle.tab_columns.specs.Moves.{IsRegion}
use Rattle.tab_columns.proofs.BlockLemmas.{all_of_block, described_place, inside_block}
use Rattle.tab_columns.proofs.ColumnLemmas.{few_slots_each}

-- a block has so many placements with so many slots each
pub record IsBlock (t : Table) (block count w : ℕ) : Type 0 where
  pub table : IsTable t
  pub counted : count ≡ min (placement_count t.pattern - block * 256) 256
  pub width : w ≡ slot_count t.pattern
  pub within : block * 256 * w + count * w ≤ length t.entries
  pub few : count * w ≤ 2048

-- the numbers that are computed of a block of the table are its count of placements and their slots
pub block_is : {t : Table} {p : ShownPattern} {block all count w : ℕ} → IsTable t → block < (placement_count t.pattern + 255) / 256 → p ≡ t.pattern
    → all ≡ placement_count p → count ≡ min (all - block * 256) 256 → w ≡ slot_count p
    → IsBlock t block count w
block_is {t = t} {p = p} {block = block} {all = all} {count = count} {w = w} table some same all_is least_is w_is =
    let counted : count ≡ min (placement_count t.pattern - block * 256) 256 = least_is
    ∙ ap (λ k. min (k - block * 256) 256) (all_is ∙ ap placement_count same) in
    let width : w ≡ slot_count t.pattern = w_is ∙ ap slot_count same in
    let entries : length t.entries ≡ placement_count t.pattern * w = table.entries ∙ ap (λ k. placement_count t.pattern * k) (sym width) in
    let scaled : (block * 256 + count) * w ≤ placement_count t.pattern * w =
    mul-le-mul_right w (let u : block * 256 + count ≤ placement_count t.pattern = omega arith in u) in
    let slots : slot_count t.pattern ≤ 8 = few_slots_each t.pattern table.pattern in
    let most : count * w ≤ 256 * w = mul-le-mul_right w (let u : count ≤ 256 = omega arith in u) in
    record { table = table; counted = counted; width = width; within = omega arith; few = omega arith }

module _ (t : Table) (block count : ℕ) (is : IsBlock t block count (slot_count t.pattern)) (ps : List ShownPlacement)
    (ranks : HaveRanks t.pattern (block * 256) ps) (long : length ps ≡ count)
    (goal : ℕ) (home : IsGoalNumber t.pattern goal) (masks kinds least : List ℕ) (kinds_len : length kinds ≡ 2048) (least_len : length least ≡ 2048)
    (are_masks : EachSlot t.pattern ps (IsRegion t.pattern.side) (length ps) masks) (are_least : EachSlot t.pattern ps (IsLeastNear t) (length ps) least)
    (are_kinds : (i : ℕ) → i < 2048 → IsKindByMask (get_or masks i 0) (block * 256 * slot_count t.pattern + i ≡ goal) (get_or kinds i 0)) where
  most : count ≤ 256
  most = let counted = is.counted in omega arith

  whole : (count ≡ 256) ⊎ (placement_count t.pattern ≤ block * 256 + count)
  whole = let counted = is.counted in elim (cases_lt 256 (placement_count t.pattern - block * 256)) [ inl l ↦ inl (omega arith) | inr l ↦ inr (omega arith) ]

  parts_are : AreBlockColumns t block (block * 256 * slot_count t.pattern) (count * slot_count t.pattern) kinds least
  parts_are = record {
    begins = omega arith;
    within = is.within;
    few = is.few;
    kinds_len = kinds_len;
    least_len = least_len;
    each = λ i l. (
      inside_block t is.table block count ps ranks long most whole i l,
      described_place t is.table block count ps ranks long most whole goal home.slot home.is_number home.in_slot masks kinds least are_masks
          are_least are_kinds i l (let few = is.few in omega arith),
    );
    all = all_of_block t is.table block count ps ranks long most whole;
  }

-- the kinds and the least entries of the placements of a block are its columns
pub columns_are : {t : Table} {p : ShownPattern} {block count w goal : ℕ} (ps : List ShownPlacement) (masks kinds least : List ℕ)
    → IsBlock t block count w → p ≡ t.pattern → HaveRanks p (block * 256) ps → length ps ≡ count
    → IsGoalNumber t.pattern goal → length kinds ≡ 2048 → length least ≡ 2048
    → EachSlot t.pattern ps (IsRegion t.pattern.side) (length ps) masks → EachSlot t.pattern ps (IsLeastNear t) (length ps) least
    → ((i : ℕ) → i < 2048 → IsKindByMask (get_or masks i 0) (block * 256 * w + i ≡ goal) (get_or kinds i 0))
    → AreBlockColumns t block (block * 256 * w) (count * w) kinds least
columns_are {t = t} {block = block} {count = count} {goal = goal} ps masks kinds least is same ranks long home kinds_len least_len are_masks
    are_least are_kinds =
    let numbers = subst (λ k. (i : ℕ) → i < 2048 → IsKindByMask (get_or masks i 0) (block * 256 * k + i ≡ goal) (get_or kinds i 0)) is.width are_kinds in
    let are = parts_are t block count (subst (IsBlock t block count) is.width is) ps
    (subst (λ q. HaveRanks q (block * 256) ps) same ranks) long goal home masks kinds least kinds_len least_len are_masks are_least numbers in
    subst (λ k. AreBlockColumns t block (block * 256 * k) (count * k) kinds least) (sym is.width) are
