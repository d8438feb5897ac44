-- Parts of a table: the entries of a run between two ranks.
use Rattle.std.proofs.Common.{◌≡◌, ◌≢◌, ℕ, ◌+◌, ◌-◌, ◌*◌, ◌<◌, ◌≤◌, List, length, get_or, inl, inr, sym, ◌∙◌, ap, subst, arith}
use Rattle.std.proofs.lemmas.Bool.{cases_eq, cases_lt}
use Rattle.std.proofs.Math.Nat.{mul-le-mul_right}
use Rattle.pat_place.specs.Patterns.{IsPattern, ShownPattern}
use Rattle.pat_place.specs.Placements.{IsFree}
use Rattle.pat_place.specs.Ranks.{IsRank}
use Rattle.pat_place.specs.Regions.{IsSlot}
use Rattle.pat_place.proofs.RankLemmas.{IsRank-one}
use Rattle.pat_place.proofs.SlotLemmas.{slot_one}
use Rattle.tab_rule.specs.BadEntries.{KeepsRule}
use Rattle.tab_rule.specs.Blocks.{IsLeastBadIn, first_of_block}
use Rattle.tab_rule.specs.Entries.{IsGoalNumber}
use Rattle.tab_rule.specs.LocalRule.{IsGoalSlot, no_region, goal as goal_kind, other as other_kind}
use Rattle.tab_rule.proofs.EntryNumberLemmas.{entry_cells}
use Rattle.tab_file.specs.Tables.{Table, slot_count}
use Rattle.tab_runs.specs.Checks.{AreKinds, IsFirstBadPlace, RunKeepsRule}
use Rattle.tab_runs.specs.Kinds.{TellRegions}
use Rattle.tab_runs.specs.Parts.{EntriesKeepRule, IsFirstBadEntry}
use Rattle.tab_runs.specs.RunPlaces.{IsFirstRank, IsRun, run_length}
use Rattle.tab_runs.specs.Runs.{free_below, with_last}
use Rattle.tab_runs.proofs.RowLemmas.{parts_one, place_low}
use Rattle.tab_runs.proofs.RunLemmas.{placed_last}

-- ---- the kinds of a run's slots

module _ (t : Table) (pat : IsPattern t.pattern) (p : List ℕ) (run : IsRun t.pattern p) (told kinds : List ℕ) (first number : ℕ)
    (tells : TellRegions t.pattern.side (slot_count t.pattern) p told)
    (is_first : IsFirstRank t.pattern.side p first) (goal : IsGoalNumber t.pattern number)
    (size : length told ≡ run_length t.pattern.side p * slot_count t.pattern)
    (here : (place : ℕ) → place < length told → first * slot_count t.pattern + place ≡ number → get_or kinds place 0 ≡ 1)
    (others : (place : ℕ) → place < length told → first * slot_count t.pattern + place ≢ number → get_or kinds place 0 ≡ get_or told place 0) where
  abbrev IsSlotOf : List ℕ → ℕ → Type 0
  IsSlotOf q j = IsSlot t.pattern.side q 0 j

  at_goal : (c j : ℕ) → IsFree t.pattern.side p c → j < slot_count t.pattern
      → first * slot_count t.pattern + (free_below p c * slot_count t.pattern + j) ≡ number → (with_last p c ≡ t.pattern.tiles) × (j ≡ goal.slot)
  at_goal c j free low e =
      let sum : (first + free_below p c) * slot_count t.pattern + j ≡ goal.is_number.rank * slot_count t.pattern + goal.slot =
      (let r : (first + free_below p c) * slot_count t.pattern + j ≡ first * slot_count t.pattern + (free_below p c * slot_count t.pattern + j) =
      omega arith in r) ∙ e ∙ goal.is_number.counted in
      let parts = parts_one (first + free_below p c) goal.is_number.rank (slot_count t.pattern) j goal.slot low goal.is_number.slot sum in
      let placed = placed_last t.pattern p c run free in (
        entry_cells goal.is_number (with_last p c) (first + free_below p c) placed.size (is_first.each c free) parts.0,
        parts.1,
      )

  number_at : (c j : ℕ) → IsFree t.pattern.side p c → IsGoalSlot t.pattern (with_last p c) j
      → first * slot_count t.pattern + (free_below p c * slot_count t.pattern + j) ≡ number
  number_at c j free g =
      let rank : first + free_below p c ≡ goal.is_number.rank =
      IsRank-one t.pattern.side t.pattern.tiles (first + free_below p c) goal.is_number.rank
      (subst (λ q. IsRank t.pattern.side q (first + free_below p c)) g.0 (is_first.each c free)) goal.is_number.is_placement in
      let slot : j ≡ goal.slot = slot_one t.pattern.side pat.low pat.high t.pattern.tiles 0 j goal.slot (subst (λ q. IsSlotOf q j) g.0 g.1) goal.in_slot in
      (let r : first * slot_count t.pattern + (free_below p c * slot_count t.pattern + j) ≡ (first + free_below p c) * slot_count t.pattern + j =
      omega arith in r) ∙
      ap (λ r. r * slot_count t.pattern + j) rank ∙ ap (λ k. goal.is_number.rank * slot_count t.pattern + k) slot ∙ sym goal.is_number.counted

  -- the kinds of a run's slots are what the bytes tell of their regions, but at the place of the goal's entry
  pub kinds_are : AreKinds t p kinds
  kinds_are c j free low =
      let place : ℕ = free_below p c * slot_count t.pattern + j in
      let inside : place < length told = (let l = place_low t.pattern.side (slot_count t.pattern) p c j run.inside run.apart free low in omega arith) in
      elim (cases_eq (first * slot_count t.pattern + place) number) [
        | inl e ↦
            let g = at_goal c j free low e in
            let slot = subst (λ q. IsSlotOf q j) (sym g.0) (subst (IsSlotOf t.pattern.tiles) (sym g.1) goal.in_slot) in
            goal_kind (g.0, slot) (here place inside e)
        | inr ne ↦ elim (tells c j free low) [
          | inl none ↦ no_region none.1 (others place inside ne ∙ none.0)
          | inr some ↦ other_kind some.1 (λ g. ne (number_at c j free g)) (others place inside ne ∙ some.0)
        ]
      ]

-- ---- from one rank up to another

shifted : (a b w : ℕ) → b ≤ a → b * w + (a - b) * w ≡ a * w
shifted a b w l = (let r : b * w + (a - b) * w ≡ (b + (a - b)) * w = omega arith in r) ∙ ap (λ k. k * w) (let e : b + (a - b) ≡ a = omega arith in e)

module _ (t : Table) (p : List ℕ) (first : ℕ) (is_first : IsFirstRank t.pattern.side p first) where
  -- where a run keeps the rule between two places, so do the table's entries between those places behind the run's first
  pub keep_part : (low high : ℕ) → RunKeepsRule t p low high → EntriesKeepRule t (first * slot_count t.pattern + low) (first * slot_count t.pattern + high)
  keep_part low high keeps number from to =
      let place : ℕ = number - first * slot_count t.pattern in
      subst (KeepsRule t) (let e : first * slot_count t.pattern + place ≡ number = omega arith in e) (keeps first is_first place (omega arith) (omega arith))

  -- the first bad place of a run is, behind the run's first entry, the first bad entry of that part of the table
  pub bad_part : (low high place : ℕ) → IsFirstBadPlace t p low high place
      → IsFirstBadEntry t (first * slot_count t.pattern + low) (first * slot_count t.pattern + high) (first * slot_count t.pattern + place)
  bad_part low high place is = record {
    from = (let l = is.from in omega arith);
    to = (let l = is.to in omega arith);
    bad = is.bad first is_first;
    before = keep_part low place is.before;
  }

-- the same by ranks
module _ (t : Table) (p : List ℕ) (first : ℕ) (is_first : IsFirstRank t.pattern.side p first) (from to : ℕ) (low : first ≤ from) (order : from < to) where
  -- where a run keeps the rule between the places of two of its ranks, so do the entries of these ranks
  pub keep_between : (w : ℕ) → w ≡ slot_count t.pattern → RunKeepsRule t p ((from - first) * w) ((to - first) * w)
      → EntriesKeepRule t (from * slot_count t.pattern) (to * slot_count t.pattern)
  keep_between w same keeps =
      subst (λ a. EntriesKeepRule t a (to * slot_count t.pattern)) (shifted from first (slot_count t.pattern) low) (
      subst (EntriesKeepRule t (first * slot_count t.pattern + (from - first) * slot_count t.pattern)) (shifted to first (slot_count t.pattern) (omega arith)) (
      keep_part t p first is_first ((from - first) * slot_count t.pattern) ((to - first) * slot_count t.pattern)
      (subst (λ v. RunKeepsRule t p ((from - first) * v) ((to - first) * v)) same keeps)))

  -- the first bad place of a run between the places of two of its ranks is the first bad entry of these ranks
  pub bad_between : (w : ℕ) → w ≡ slot_count t.pattern → (place : ℕ) → IsFirstBadPlace t p ((from - first) * w) ((to - first) * w) place
      → IsFirstBadEntry t (from * slot_count t.pattern) (to * slot_count t.pattern) (first * w + place)
  bad_between w same place bad =
      subst (λ v. IsFirstBadEntry t (from * slot_count t.pattern) (to * slot_count t.pattern) (first * v + place)) (sym same) (
      subst (λ a. IsFirstBadEntry t a (to * slot_count t.pattern) (first * slot_count t.pattern + place)) (shifted from first (slot_count t.pattern) low) (
      subst (λ b. IsFirstBadEntry t (first * slot_count t.pattern + (from - first) * slot_count t.pattern) b (first * slot_count t.pattern + place))
      (shifted to first (slot_count t.pattern) (omega arith)) (
      bad_part t p first is_first ((from - first) * slot_count t.pattern) ((to - first) * slot_count t.pattern) place
      (subst (λ v. IsFirstBadPlace t p ((from - first) * v) ((to - first) * v) place) same bad))))

-- the places of the ranks are those of the run
pub part_low : (a b w : ℕ) → a ≤ b → a * w ≤ b * w
part_low a b w l = mul-le-mul_right w l

-- some placements of a run, no more than it has, have no more entries than the run
pub part_few : (p : ShownPattern) (cells : List ℕ) (count w : ℕ) → w ≡ slot_count p → count ≤ run_length p.side cells
    → count * w ≤ run_length p.side cells * slot_count p
part_few p cells count w same l = subst (λ v. count * v ≤ run_length p.side cells * slot_count p) (sym same) (mul-le-mul_right (slot_count p) l)

-- ---- from part to part of a block

-- two parts of a table that meet and keep the rule make one part that does
pub entries_more : (t : Table) (a b c : ℕ) → EntriesKeepRule t a b → EntriesKeepRule t b c → EntriesKeepRule t a c
entries_more t a b c one two number from to = elim (cases_lt number b) [ inl l ↦ one number from l | inr l ↦ two number l to ]

-- where a block keeps the rule up to a rank, the first bad entry from there on is the least bad one of the block
pub block_bad : (t : Table) (block from to number : ℕ) → block * 256 ≤ from → to ≤ (block + 1) * 256
    → EntriesKeepRule t (first_of_block t.pattern block) (from * slot_count t.pattern)
    → IsFirstBadEntry t (from * slot_count t.pattern) (to * slot_count t.pattern) number → IsLeastBadIn t block number
block_bad t block from to number low high before is =
    let at_first : block * 256 * slot_count t.pattern ≤ from * slot_count t.pattern = mul-le-mul_right (slot_count t.pattern) low in
    let at_end : to * slot_count t.pattern ≤ (block + 1) * 256 * slot_count t.pattern = mul-le-mul_right (slot_count t.pattern) high in
    record {
      in_block = record { from = (let l = is.from in omega arith); to = (let l = is.to in omega arith) };
      bad = is.bad;
      least = λ other inside breaks. elim (cases_lt other number) [
        | inr l ↦ l
        | inl l ↦ absurd (breaks.breaks (entries_more t (first_of_block t.pattern block)
            (from * slot_count t.pattern) number before is.before other inside.from l breaks.cells breaks.slot breaks.is_number))
      ];
    }
