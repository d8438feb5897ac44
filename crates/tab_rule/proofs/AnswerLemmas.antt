-- A file is that of an exact table or has a fault, and its entries have a census.
use Rattle.std.proofs.Common.{◌≡◌, ℕ, zero, suc, ◌+◌, ◌*◌, ◌/◌, ◌<◌, ◌≤◌, ◌⊎◌, List, [], length, get_or, take, Result, Some, Ok, Err, inl, inr, refl}
use Rattle.std.proofs.Common.{sym, ◌∙◌, ap, subst, arith}
use Rattle.std.specs.Prelude.{count_by, slice_get, slice_index, ◌==◌}
use Rattle.std.specs.List.{range_with_len}
use Rattle.std.proofs.Math.Nat.{mul-le-mul_right}
use Rattle.std.proofs.lemmas.Bool.{cases_lt}
use Rattle.std.proofs.lemmas.List.{take_all}
use Rattle.std.proofs.lemmas.Option.{slice_get-get_or}
use Rattle.pat_place.specs.Ranks.{IsRank, lists_of, placements}
use Rattle.pat_place.proofs.RankLemmas.{IsPlacement-found, IsRank-found, placement_of_rank}
use Rattle.pat_place.proofs.SlotLemmas.{least_below}
use Rattle.tab_file.specs.HeadFaults.{table_of_file}
use Rattle.tab_file.specs.Tables.{Table, IsTable, entry_at, placement_count, slot_count}
use Rattle.tab_file.specs.declared.headers.HeadFault.{HeadFault}
use Rattle.tab_file.proofs.FileLemmas.{IfErr-first, IfOk-table}
use Rattle.tab_rule.specs.BadEntries.{IsLeastBadEntry, KeepsRule}
use Rattle.tab_rule.proofs.BlockLemmas.{IsFirstBadSlot, SlotsKeepRule, keeps_more, least_bad_in}
use Rattle.tab_file.specs.Counts.{IsGreatestCount}
use Rattle.tab_rule.specs.Counts.{IsCensusOf}
use Rattle.tab_rule.specs.ExactTables.{IsExactFile}
use Rattle.tab_rule.specs.LocalRule.{LocalRule}
use Rattle.tab_rule.specs.TableFaults.{IsTableFaultOf}
use Rattle.tab_rule.specs.declared.census.Census.{Census}
use Rattle.tab_rule.specs.declared.tables.TableRefusal.{TableRefusal}
use Rattle.tab_rule.specs.declared.tables.TableRefusal.TheVariants.{Head, T7}
use Rattle.tab_rule.proofs.DecidedLemmas.{rule_decided}
use Rattle.tab_rule.proofs.TableLemmas.{exact_from_keeps, number_below}
use Rattle.tab_rule.proofs.Values.{IsPlaced}

-- ---- the least bad entry

module _ (t : Table) (is : IsTable t) where
  -- each rank has a placement
  placed_at : (r : ℕ) → r < placement_count t.pattern → (cells : List ℕ) × IsPlaced t.pattern cells × IsRank t.pattern.side cells r
  unfolding placements
  placed_at r low =
      let n = t.pattern.side in
      let k = length t.pattern.tiles in
      let z : List ℕ = get_or (placements n k) r [] in
      let got : slice_get (placements n k) r ≡ Some z = slice_get-get_or (placements n k) r [] low in
      let size : length z ≡ k = (placement_of_rank k (range_with_len 0 (n * n)) r z got).0 in
      let whole : take k z ≡ z = take_all k z (omega arith) in
      let found : slice_get (lists_of k (range_with_len 0 (n * n))) r ≡ Some (take k z) = got ∙ ap Some (sym whole) in
      (take k z, IsPlacement-found t.pattern (n * n) k r z refl refl found, IsRank-found t.pattern (n * n) k r z refl refl found)

  -- the slots of a rank keep the rule, or a first one breaks it
  slots_of : (r : ℕ) (cells : List ℕ) → IsPlaced t.pattern cells → SlotsKeepRule t cells r (slot_count t.pattern) ⊎ ((slot : ℕ) × IsFirstBadSlot t cells r slot)
  slots_of r cells place = elim (least_below Breaks breaks_decided (slot_count t.pattern)) [
    | inr none ↦ inl (λ j low. kept j (none j low))
    | inl h ↦ inr (
      h.0,
      record {
        slot_low = h.1;
        breaks = h.2;
        below = λ j low. kept j (λ breaks. let least : h.0 ≤ j = h.3 j breaks in omega arith);
      },
    )
  ]
    where
      Breaks : ℕ → Type 0
      Breaks j = ¬ LocalRule t cells j (entry_at t r j)

      breaks_decided : (j : ℕ) → Breaks j ⊎ (¬ Breaks j)
      breaks_decided j = elim (rule_decided t is.pattern cells j (entry_at t r j) place) [ inl keeps ↦ inr (λ breaks. breaks keeps) | inr breaks ↦ inl breaks ]

      kept : (j : ℕ) → ¬ Breaks j → LocalRule t cells j (entry_at t r j)
      kept j none = elim (rule_decided t is.pattern cells j (entry_at t r j) place) [ inl keeps ↦ keeps | inr breaks ↦ absurd (none breaks) ]

  -- those of the first ranks keep the rule, or there is a least bad entry
  ranks_below : (m : ℕ) → m ≤ placement_count t.pattern → ((number : ℕ) → number < m * slot_count t.pattern → KeepsRule t number)
      ⊎ ((number : ℕ) × IsLeastBadEntry t number)
  ranks_below zero low = inl (λ number none. absurd (omega arith))
  ranks_below (suc m) low = elim (ranks_below m (omega arith)) [
    | inr bad ↦ inr bad
    | inl before ↦ let p = placed_at m (omega arith) in elim (slots_of m p.0 p.1) [
      | inl keeps ↦ inl (λ number l. keeps_more t 0 m p.0 p.1.size p.2 keeps (λ other from to. before other to) number (omega arith) (omega arith))
      | inr first ↦ inr (m * slot_count t.pattern + first.0, least_bad m p.0 p.1 p.2 first.0 first.1 before)
    ]
  ]
    where
      least_bad : (m : ℕ) (cells : List ℕ) → IsPlaced t.pattern cells → IsRank t.pattern.side cells m → (slot : ℕ) → IsFirstBadSlot t cells m slot
          → ((number : ℕ) → number < m * slot_count t.pattern → KeepsRule t number) → IsLeastBadEntry t (m * slot_count t.pattern + slot)
      least_bad m cells place is_rank slot first before =
          let block : ℕ = m / 256 in
          let here = least_bad_in t block m slot (record { pattern = t.pattern; cells = cells }) refl place is_rank (omega arith) (omega arith) first
          (λ other from to. before other to) in
          let slot_low : slot < slot_count t.pattern = first.slot_low in
          let starts : block * 256 * slot_count t.pattern ≤ m * slot_count t.pattern =
          mul-le-mul_right (slot_count t.pattern) (let s : block * 256 ≤ m = omega arith in s) in
          let ends : (m + 1) * slot_count t.pattern ≤ (block + 1) * 256 * slot_count t.pattern =
          mul-le-mul_right (slot_count t.pattern) (let s : m + 1 ≤ (block + 1) * 256 = omega arith in s) in
          record {
            bad = here.bad;
            least = λ other bad. elim (cases_lt other (m * slot_count t.pattern)) [
              | inl l ↦ absurd (bad.breaks (before other l bad.cells bad.slot bad.is_number))
              | inr from ↦ elim (cases_lt other ((block + 1) * 256 * slot_count t.pattern)) [
                | inl to ↦ here.least other (record { from = omega arith; to = to }) bad
                | inr past ↦ omega arith
              ]
            ];
          }

-- ---- the answer

-- each file is that of an exact table or has a fault that says why it isn't
pub file_answer : (file : List ℕ) → ((t : Table) × IsExactFile t file) ⊎ ((fault : TableRefusal) × IsTableFaultOf fault file)
file_answer file = by_table (table_of_file file) refl
  where
    by_table : (r : Result Table HeadFault) → r ≡ table_of_file file → ((t : Table) × IsExactFile t file) ⊎ ((fault : TableRefusal) × IsTableFaultOf fault file)
    by_table (Err fault) e = inr (Head fault, IfErr-first file (Err fault) e)
    by_table (Ok t) e =
        let is_file = IfOk-table file (Ok t) e in
        elim (ranks_below t is_file.table (placement_count t.pattern) (omega arith)) [
          | inl keeps ↦ inl (
            t,
            record {
              is_file = is_file;
              exact = exact_from_keeps t is_file.table (λ number cells j is. keeps number (number_below t.pattern cells j number is) cells j is);
            },
          )
          | inr bad ↦ inr (T7 bad.0, (t, is_file, bad.1))
        ]

-- ---- the census

module _ (entries : List ℕ) (m d : ℕ) (is : IsGreatestCount entries m d) where
  bound_more : (e : ℕ) → d ≤ e → (slice_index entries m ≤ 253 → slice_index entries m ≤ e) → (i : ℕ) → i < suc m → slice_index entries i ≤ 253
      → slice_index entries i ≤ e
  bound_more e up here i low count = elim (cases_lt i m) [
    | inl l ↦ let old : slice_index entries i ≤ d = is.bound i l count in omega arith
    | inr l ↦ let same : m ≡ i = omega arith in subst (λ k. slice_index entries k ≤ e) same (here (subst (λ k. slice_index entries k ≤ 253) (sym same) count))
  ]

  reached_more : (d ≡ 0) ⊎ ((i : ℕ) × (i < suc m) × (slice_index entries i ≡ d))
  reached_more = elim is.reached [ inl none ↦ inl none | inr h ↦ inr (h.0, (let l : h.0 < m = h.1 in omega arith), h.2) ]

  -- the greatest count among one entry more
  deepest_more : (e : ℕ) × IsGreatestCount entries (suc m) e
  deepest_more = elim (cases_lt (slice_index entries m) 254) [
    | inr large ↦ (d, record { most = is.most; bound = bound_more d (omega arith) (λ count. absurd (omega arith)); reached = reached_more })
    | inl small ↦ elim (cases_lt d (slice_index entries m)) [
      | inl more ↦ (
        slice_index entries m,
        record { most = omega arith; bound = bound_more (slice_index entries m) (omega arith) (λ count. omega arith); reached = inr (m, omega arith, refl) },
      )
      | inr less ↦ (d, record { most = is.most; bound = bound_more d (omega arith) (λ count. less); reached = reached_more })
    ]
  ]

deepest_some : (entries : List ℕ) (first : ℕ) → (d : ℕ) × IsGreatestCount entries first d
deepest_some entries zero = (0, record { most = omega arith; bound = λ i low small. absurd (omega arith); reached = inl refl })
deepest_some entries (suc m) = let before = deepest_some entries m in deepest_more entries m before.0 before.1

-- the entries of any list have a census
pub census_some : (entries : List ℕ) → (census : Census) × IsCensusOf entries census
census_some entries =
    let d = deepest_some entries (length entries) in (
      record { entries = length entries; unreachable = count_by (λ e. e == 255) entries; deepest = d.0 },
      record { entries_counted = refl; never_counted = refl; greatest = d.1 },
    )
