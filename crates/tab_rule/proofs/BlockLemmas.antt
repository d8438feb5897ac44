-- The entries of one placement, and of one block.
use Rattle.std.proofs.Common.{◌≡◌, ℕ, ◌+◌, ◌*◌, ◌/◌, ◌^◌, ◌<◌, ◌≤◌, Bool, true, false, List, length, Some, inl, inr, refl, sym, ◌∙◌, ap, subst, arith}
use Rattle.std.specs.Prelude.{MatchBool, slice_get, slice_index}
use Rattle.std.proofs.lemmas.Bool.{cases_lt}
use Rattle.std.proofs.Math.Nat.{mul-le-mul_left, mul-le-mul_right}
use Rattle.pat_place.specs.Patterns.{ShownPattern, IsPattern}
use Rattle.pat_place.specs.Placements.{ShownPlacement, IsPlacement}
use Rattle.pat_place.specs.Ranks.{IsRank, placements}
use Rattle.pat_place.proofs.CountLemmas.{few_placements}
use Rattle.pat_place.proofs.ListLemmas.{Some-one}
use Rattle.pat_place.proofs.RankLemmas.{IsRank-below}
use Rattle.tab_file.specs.Tables.{Table, entry_at, placement_count, slot_count}
use Rattle.tab_rule.specs.BadEntries.{IsBad, KeepsRule}
use Rattle.tab_rule.specs.Blocks.{BlockKeepsRule, IsLeastBadIn, first_of_block}
use Rattle.tab_rule.specs.LocalRule.{LocalRule}
use Rattle.tab_rule.proofs.EntryNumberLemmas.{entry_cells, entry_number, entry_rank_below}

-- ---- one placement of a block

-- its entries keep the rule in the slots below this one
abbrev pub SlotsKeepRule : Table → List ℕ → ℕ → ℕ → Type 0
SlotsKeepRule t cells rank slot = (j : ℕ) → j < slot → LocalRule t cells j (entry_at t rank j)

-- the entry of this slot breaks the rule, and those of the slots below it keep it
pub record IsFirstBadSlot (t : Table) (cells : List ℕ) (rank slot : ℕ) : Type 0 where
  pub slot_low : slot < slot_count t.pattern
  pub breaks : ¬ LocalRule t cells slot (entry_at t rank slot)
  pub below : SlotsKeepRule t cells rank slot

-- ---- placements by their ranks

-- two lists of as many cells that have one rank are the same
pub same_cells : (n : ℕ) (cells other : List ℕ) (r : ℕ) → length cells ≡ length other → IsRank n cells r → IsRank n other r → cells ≡ other
same_cells n cells other r e is also = Some-one cells other (sym (subst (λ k. slice_get (placements n k) r ≡ Some cells) e is) ∙ also)

module _ (t : Table) (p : ShownPlacement) (same : p.pattern ≡ t.pattern) (place : IsPlacement p) (r : ℕ) (is : IsRank t.pattern.side p.cells r) where
  size : length p.cells ≡ length t.pattern.tiles
  size = place.size ∙ ap (λ q. length q.tiles) same

  -- the rank of a placement is below the table's count of placements
  pub rank_below : r < placement_count t.pattern
  rank_below = subst (λ k. r < length (placements t.pattern.side k)) size (IsRank-below t.pattern.side p.cells r is)

-- ---- the next placement

-- the step to the next placement leads to the next rank, as long as there is one
pub next_rank : (p : ShownPattern) (old : ShownPlacement) (new : List ℕ) (b : Bool) (r : ℕ) → old.pattern ≡ p → IsPlacement old
    → IsRank p.side old.cells r → r + 1 < placement_count p
    → ((r : ℕ) → IsRank old.pattern.side old.cells r → MatchBool b (IsRank old.pattern.side new (r + 1))
    (r + 1 ≡ length (placements old.pattern.side (length old.cells)))) → IsRank p.side new (r + 1)
next_rank p old new b r same place is low step = go b (step r (subst (λ q. IsRank q.side old.cells r) (sym same) is))
  where
    go : (b : Bool) → MatchBool b (IsRank old.pattern.side new (r + 1)) (r + 1 ≡ length (placements old.pattern.side (length old.cells)))
        → IsRank p.side new (r + 1)
    go true next = subst (λ q. IsRank q.side new (r + 1)) same next
    go false last =
        let all : length (placements old.pattern.side (length old.cells)) ≡ placement_count p =
        ap (λ k. length (placements old.pattern.side k)) place.size ∙ ap placement_count same in
        absurd (omega arith)

-- ---- ranks and numbers

-- an entry before those of the m-th placement has a rank below m
pub rank_low : (r j w m : ℕ) → r * w + j < m * w → r < m
rank_low r j w m l = elim (cases_lt r m) [ inl k ↦ k | inr k ↦ absurd (let h : m * w ≤ r * w = mul-le-mul_right w k in omega arith) ]

-- an entry that isn't before those of the m-th placement has a rank of m at least
pub rank_high : (r j w m : ℕ) → j < w → m * w ≤ r * w + j → m ≤ r
rank_high r j w m low l = elim (cases_lt r m) [
  | inr k ↦ k
  | inl k ↦ absurd (let h : (r + 1) * w ≤ m * w = mul-le-mul_right w (let s : r + 1 ≤ m = omega arith in s) in omega arith)
]

-- the ranks of a block of the table, to its end, fit in 64 bits
pub first_fits : (p : ShownPattern) → IsPattern p → (block : ℕ) → block < (placement_count p + 255) / 256 → block * 256 + 256 < 2 ^ 64
first_fits p pat block l = let few = few_placements p pat in omega arith

-- the number of an entry, by its rank and its slot, fits in 64 bits
pub number_fits : (p : ShownPattern) → IsPattern p → (r w j : ℕ) → r < placement_count p → w < 256 → j < 256 → r * w + j < 2 ^ 64
number_fits p pat r w j l fit low =
    let few = few_placements p pat in
    let most : r * w ≤ r * 255 = mul-le-mul_left r (let k : w ≤ 255 = omega arith in k) in
    omega arith

module _ (t : Table) where
  -- the entries of one placement more
  pub keeps_more : (first place : ℕ) (cells : List ℕ) → length cells ≡ length t.pattern.tiles → IsRank t.pattern.side cells place
      → SlotsKeepRule t cells place (slot_count t.pattern)
      → ((number : ℕ) → first ≤ number → number < place * slot_count t.pattern → KeepsRule t number)
      → (number : ℕ) → first ≤ number → number < (place + 1) * slot_count t.pattern → KeepsRule t number
  keeps_more first place cells size is keeps before number from to others j number_is = elim (cases_lt number (place * slot_count t.pattern)) [
    | inl l ↦ before number from l others j number_is
    | inr l ↦
        let counted : number ≡ number_is.rank * slot_count t.pattern + j = number_is.counted in
        let low : number_is.rank < place + 1 = rank_low number_is.rank j (slot_count t.pattern) (place + 1) (omega arith) in
        let high : place ≤ number_is.rank = rank_high number_is.rank j (slot_count t.pattern) place number_is.slot (omega arith) in
        let same : number_is.rank ≡ place = omega arith in
        let one : cells ≡ others = entry_cells number_is cells place size is (sym same) in
        let here : place * slot_count t.pattern + j ≡ number = ap (λ r. r * slot_count t.pattern + j) (sym same) ∙ sym counted in
        subst (λ e. LocalRule t others j (slice_index t.entries e)) here (subst (λ q. LocalRule t q j (entry_at t place j)) one (keeps j number_is.slot))
  ]

  -- the entries of a whole block
  pub keeps_all : (block place : ℕ) → ((r : ℕ) → r < (block + 1) * 256 → r < placement_count t.pattern → r < place)
      → ((number : ℕ) → first_of_block t.pattern block ≤ number → number < place * slot_count t.pattern → KeepsRule t number) → BlockKeepsRule t block
  keeps_all block place past before number inside cells j number_is =
      let counted : number ≡ number_is.rank * slot_count t.pattern + j = number_is.counted in
      let to : number < (block + 1) * 256 * slot_count t.pattern = inside.to in
      let low : number_is.rank < (block + 1) * 256 = rank_low number_is.rank j (slot_count t.pattern) ((block + 1) * 256) (omega arith) in
      let below : number_is.rank < placement_count t.pattern = entry_rank_below number_is in
      let r_low : number_is.rank < place = past number_is.rank low below in
      let next : (number_is.rank + 1) * slot_count t.pattern ≤ place * slot_count t.pattern =
      mul-le-mul_right (slot_count t.pattern) (let s : number_is.rank + 1 ≤ place = omega arith in s) in
      let slot : j < slot_count t.pattern = number_is.slot in
      before number inside.from (omega arith) cells j number_is

  -- the first bad slot of the first placement that has one is the least bad entry
  pub least_bad_in : (block place slot : ℕ) (p : ShownPlacement) → p.pattern ≡ t.pattern → IsPlacement p → IsRank t.pattern.side p.cells place
      → block * 256 ≤ place → place < (block + 1) * 256 → IsFirstBadSlot t p.cells place slot
      → ((number : ℕ) → first_of_block t.pattern block ≤ number → number < place * slot_count t.pattern → KeepsRule t number)
      → IsLeastBadIn t block (place * slot_count t.pattern + slot)
  least_bad_in block place slot p same is is_rank from to bad before =
      let size : length p.cells ≡ length t.pattern.tiles = is.size ∙ ap (λ q. length q.tiles) same in
      let low : slot < slot_count t.pattern = bad.slot_low in
      let at_first : block * 256 * slot_count t.pattern ≤ place * slot_count t.pattern = mul-le-mul_right (slot_count t.pattern) from in
      let at_end : (place + 1) * slot_count t.pattern ≤ (block + 1) * 256 * slot_count t.pattern =
      mul-le-mul_right (slot_count t.pattern) (let s : place + 1 ≤ (block + 1) * 256 = omega arith in s) in
      record {
        in_block = record { from = omega arith; to = omega arith };
        bad = record {
          cells = p.cells;
          slot = slot;
          is_number = entry_number place size is_rank low refl;
          breaks = bad.breaks;
        };
        least = λ other inside breaks. least p.cells size is_rank bad before other inside.from breaks;
      }
    where
      least : (cells : List ℕ) → length cells ≡ length t.pattern.tiles → IsRank t.pattern.side cells place → IsFirstBadSlot t cells place slot
          → ((number : ℕ) → first_of_block t.pattern block ≤ number → number < place * slot_count t.pattern → KeepsRule t number)
          → (other : ℕ) → first_of_block t.pattern block ≤ other → IsBad t other → place * slot_count t.pattern + slot ≤ other
      least cells size is_rank bad before other from breaks = elim (cases_lt other (place * slot_count t.pattern + slot)) [
        | inr l ↦ l
        | inl l ↦ elim (cases_lt other (place * slot_count t.pattern)) [
          | inl k ↦ absurd (breaks.breaks (before other from k breaks.cells breaks.slot breaks.is_number))
          | inr k ↦
              let number_is = breaks.is_number in
              let counted : other ≡ number_is.rank * slot_count t.pattern + breaks.slot = number_is.counted in
              let low : slot < slot_count t.pattern = bad.slot_low in
              let r_low : number_is.rank < place + 1 = rank_low number_is.rank breaks.slot (slot_count t.pattern) (place + 1) (omega arith) in
              let r_high : place ≤ number_is.rank = rank_high number_is.rank breaks.slot (slot_count t.pattern) place number_is.slot (omega arith) in
              let same : number_is.rank ≡ place = omega arith in
              let one : cells ≡ breaks.cells = entry_cells number_is cells place size is_rank (sym same) in
              let here : place * slot_count t.pattern + breaks.slot ≡ other = ap (λ r. r * slot_count t.pattern + breaks.slot) (sym same) ∙ sym counted in
              let slot_low : breaks.slot < slot = omega arith in
              absurd (breaks.breaks (subst (λ e. LocalRule t breaks.cells breaks.slot (slice_index t.entries e)) here
              (subst (λ q. LocalRule t q breaks.slot (entry_at t place breaks.slot)) one (bad.below breaks.slot slot_low))))
        ]
      ]
