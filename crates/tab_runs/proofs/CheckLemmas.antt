-- The entries of a run, place by place.
use Rattle.std.proofs.Common.{◌≡◌, ℕ, ◌+◌, ◌-◌, ◌*◌, ◌/◌, ◌%◌, ◌<◌, ◌≤◌, List, length, get_or, take, drop, inl, inr, sym, ◌∙◌, ap, subst, arith, length-drop}
use Rattle.std.specs.Prelude.{slice_index}
use Rattle.std.proofs.lemmas.Bool.{cases_eq, cases_lt}
use Rattle.std.proofs.lemmas.List.{get_or-drop, get_or-take, length-take-le}
use Rattle.std.proofs.lemmas.Nat.{div-add-mod', mod_below}
use Rattle.std.proofs.Math.Nat.{mul-le-mul_right}
use Rattle.pat_place.specs.Patterns.{IsPattern}
use Rattle.pat_place.specs.Placements.{IsFree}
use Rattle.pat_place.proofs.RankLemmas.{IsRank-one}
use Rattle.tab_rule.specs.BadEntries.{IsBad, KeepsRule}
use Rattle.tab_rule.specs.Entries.{IsEntryNumber}
use Rattle.tab_rule.specs.LocalRule.{IsKindOf, IsLeastNear, LocalRule}
use Rattle.tab_rule.proofs.CaseLemmas.{rule_by_numbers}
use Rattle.tab_rule.proofs.EntryNumberLemmas.{entry_cells, entry_number, entry_placement, entry_rank}
use Rattle.tab_file.specs.Tables.{Table, slot_count}
use Rattle.tab_file.specs.EntryRules.{KeepsRuleOfKind}
use Rattle.tab_lanes.specs.LocalRule.{AllPlacesKeepRule, IsFirstBreach, KeepsRuleAt}
use Rattle.tab_runs.specs.Checks.{AreKinds, IsFirstBadPlace, RunKeepsRule}
use Rattle.tab_runs.specs.RunPlaces.{AreRunEntries, IsFirstRank, IsRun, run_length}
use Rattle.tab_runs.specs.Runs.{free_below, with_last}
use Rattle.tab_runs.specs.Steps.{AreLeastNear}
use Rattle.tab_runs.proofs.RowLemmas.{parts_one}
use Rattle.tab_runs.proofs.RunLemmas.{placed_last}
use Rattle.tab_runs.proofs.RunRanks.{free_at}

-- the entry of a place, counted from 0, keeps the rule by numbers
abbrev KeepsAt : List ℕ → List ℕ → List ℕ → ℕ → Type 0
KeepsAt own mins kinds place = KeepsRuleOfKind (slice_index kinds place) (slice_index mins (1 + place)) (slice_index own (1 + place))

-- ---- one place

split : (x w : ℕ) → 0 < w → x ≡ x / w * w + x % w
split x w some = let e = div-add-mod' x w in omega arith

quotient : (x w m : ℕ) → 0 < w → x < m * w → x / w < m
quotient x w m some l = elim (cases_lt (x / w) m) [
  | inl k ↦ k
  | inr k ↦ absurd (let h : m * w ≤ x / w * w = mul-le-mul_right w k in let e = split x w some in omega arith)
]

same_rule : {k l e k2 l2 e2 : ℕ} → k ≡ k2 → l ≡ l2 → e ≡ e2 → KeepsRuleOfKind k l e → KeepsRuleOfKind k2 l2 e2
same_rule {k} {l} {e} {k2} {l2} {e2} a b c h = subst (λ x. KeepsRuleOfKind x l2 e2) a (subst (λ x. KeepsRuleOfKind k x e2) b (subst (KeepsRuleOfKind k l) c h))

module _ (t : Table) (pat : IsPattern t.pattern) (p : List ℕ) (run : IsRun t.pattern p) (own mins kinds : List ℕ) (entries : AreRunEntries t p own)
    (least : AreLeastNear t p mins) (are : AreKinds t p kinds) where
  -- the last tile's cell and the slot of a place
  record IsAt (place : ℕ) : Type 0 where
    cell : ℕ
    slot : ℕ
    free : IsFree t.pattern.side p cell
    low : slot < slot_count t.pattern
    counted : place ≡ free_below p cell * slot_count t.pattern + slot

  at_place : (place : ℕ) → place < run_length t.pattern.side p * slot_count t.pattern → IsAt place
  at_place place l =
      let some : 0 < slot_count t.pattern = elim (cases_eq (slot_count t.pattern) 0) [
        | inl z ↦ absurd
            (let none : run_length t.pattern.side p * slot_count t.pattern ≡ run_length t.pattern.side p * 0 =
            ap (λ w. run_length t.pattern.side p * w) z in omega arith)
        | inr ne ↦ omega arith
      ] in
      let c = free_at t.pattern.side p run.inside run.apart (place / slot_count t.pattern)
      (quotient place (slot_count t.pattern) (run_length t.pattern.side p) some l) in
      record {
        cell = c.0;
        slot = place % slot_count t.pattern;
        free = c.1;
        low = mod_below place (slot_count t.pattern) some;
        counted = split place (slot_count t.pattern) some ∙ ap (λ k. k * slot_count t.pattern + place % slot_count t.pattern) (sym c.2);
      }

  number_is : (first : ℕ) → IsFirstRank t.pattern.side p first → (place : ℕ) → (a : IsAt place)
      → IsEntryNumber t.pattern (with_last p a.cell) a.slot (first * slot_count t.pattern + place)
  number_is first is_first place a =
      let size = (placed_last t.pattern p a.cell run a.free).size in
      entry_number (first + free_below p a.cell) size (is_first.each a.cell a.free) a.low
      (ap (λ k. first * slot_count t.pattern + k) a.counted ∙ (omega arith))

  -- the entry of its number is the byte of its place
  entry_is : (first : ℕ) → IsFirstRank t.pattern.side p first → (place : ℕ) → (a : IsAt place)
      → slice_index t.entries (first * slot_count t.pattern + place) ≡ get_or own (1 + place) 0
  entry_is first is_first place a =
      let same : first + free_below p a.cell ≡ entries.first + free_below p a.cell =
      IsRank-one t.pattern.side (with_last p a.cell) (first + free_below p a.cell) (entries.first + free_below p a.cell)
      (is_first.each a.cell a.free) (entries.is_first.each a.cell a.free) in
      let number : first * slot_count t.pattern + (free_below p a.cell * slot_count t.pattern + a.slot) ≡ (first + free_below p a.cell) * slot_count
      t.pattern + a.slot = omega arith in
      let at : 1 + free_below p a.cell * slot_count t.pattern + a.slot ≡ 1 + place = (let c = a.counted in omega arith) in
      ap (slice_index t.entries) (ap (λ k. first * slot_count t.pattern + k) a.counted ∙ number ∙ ap (λ r. r * slot_count t.pattern + a.slot) same) ∙
      sym (entries.each a.cell a.slot a.free a.low) ∙
      ap (λ i. get_or own i 0) at

  rule_at : (first : ℕ) → IsFirstRank t.pattern.side p first → (place : ℕ) → (a : IsAt place)
      → (KeepsAt own mins kinds place → LocalRule t (with_last p a.cell) a.slot (slice_index t.entries (first * slot_count t.pattern + place)))
      × (LocalRule t (with_last p a.cell) a.slot (slice_index t.entries (first * slot_count t.pattern + place)) → KeepsAt own mins kinds place)
  rule_at first is_first place a =
      let e = entry_is first is_first place a in
      let at : 1 + free_below p a.cell * slot_count t.pattern + a.slot ≡ 1 + place = (let c = a.counted in omega arith) in
      let near : IsLeastNear t (with_last p a.cell) a.slot (get_or mins (1 + place) 0) =
      subst (λ i. IsLeastNear t (with_last p a.cell) a.slot (get_or mins i 0)) at (least a.cell a.slot a.free a.low) in
      let kind : IsKindOf t.pattern (with_last p a.cell) a.slot (get_or kinds place 0) =
      subst (λ i. IsKindOf t.pattern (with_last p a.cell) a.slot (get_or kinds i 0)) (sym a.counted) (are a.cell a.slot a.free a.low) in
      let both = rule_by_numbers t (with_last p a.cell) a.slot (get_or own (1 + place) 0) (get_or kinds place 0) (get_or mins (1 + place) 0) kind near in
      (λ k. subst (LocalRule t (with_last p a.cell) a.slot) (sym e) (both.0 k), λ r. both.1 (subst (LocalRule t (with_last p a.cell) a.slot) e r))

  -- the entry of a place keeps the rule where the numbers of the place do, whatever first rank the run has
  pub keeps_at : (place : ℕ) → place < run_length t.pattern.side p * slot_count t.pattern → KeepsAt own mins kinds place → (first : ℕ)
      → IsFirstRank t.pattern.side p first → KeepsRule t (first * slot_count t.pattern + place)
  keeps_at place l keeps first is_first cells j is =
      let a = at_place place l in
      let here = number_is first is_first place a in
      let parts = parts_one is.rank here.rank (slot_count t.pattern) j a.slot is.slot a.low (sym is.counted ∙ here.counted) in
      let one : with_last p a.cell ≡ cells =
      entry_cells is (with_last p a.cell) here.rank (entry_placement here).size (entry_rank here) (sym parts.0) in
      subst (λ i. LocalRule t cells i (slice_index t.entries (first * slot_count t.pattern + place))) (sym parts.1)
      (subst (λ q. LocalRule t q a.slot (slice_index t.entries (first * slot_count t.pattern + place))) one ((rule_at first is_first place a).0 keeps))

  -- the entry of a place is bad where the numbers of the place break the rule, by any first rank of the run
  pub bad_at : (place : ℕ) → place < run_length t.pattern.side p * slot_count t.pattern → ¬ KeepsAt own mins kinds place → (first : ℕ)
      → IsFirstRank t.pattern.side p first → IsBad t (first * slot_count t.pattern + place)
  bad_at place l breaks first is_first =
      let a = at_place place l in
      record {
        cells = with_last p a.cell;
        slot = a.slot;
        is_number = number_is first is_first place a;
        breaks = λ r. breaks ((rule_at first is_first place a).1 r);
      }

  -- ---- from one place up to another

  module _ (low high : ℕ) (order : low ≤ high) (room : high ≤ run_length t.pattern.side p * slot_count t.pattern) where
    abbrev part_own : List ℕ
    part_own = take (1 + high - (1 + low)) (drop (1 + low) own)

    abbrev part_mins : List ℕ
    part_mins = take (1 + high - (1 + low)) (drop (1 + low) mins)

    abbrev part_kinds : List ℕ
    part_kinds = take (high - low) (drop low kinds)

    part_size : length (take (1 + high - (1 + low)) (drop (1 + low) own)) ≡ high - low
    part_size = length-take-le (1 + high - (1 + low)) (drop (1 + low) own) (let e = entries.size in let d = length-drop (1 + low) own in omega arith)
        ∙ (let e : 1 + high - (1 + low) ≡ high - low = omega arith in e)

    part_at : (bytes : List ℕ) (len from i : ℕ) → i < len → get_or (take len (drop from bytes)) i 0 ≡ get_or bytes (from + i) 0
    part_at bytes len from i l = get_or-take len (drop from bytes) i 0 l ∙ get_or-drop from bytes i 0

    at_one : (bytes : List ℕ) (i : ℕ) → i < high - low → get_or (take (1 + high - (1 + low)) (drop (1 + low) bytes)) i 0 ≡ get_or bytes (1 + (low + i)) 0
    at_one bytes i l = part_at bytes (1 + high - (1 + low)) (1 + low) i (omega arith)
        ∙ ap (λ k. get_or bytes k 0) (let e : 1 + low + i ≡ 1 + (low + i) = omega arith in e)

    to_at : (i : ℕ) → i < high - low → KeepsRuleAt part_own part_mins part_kinds i → KeepsAt own mins kinds (low + i)
    to_at i l h = same_rule (part_at kinds (high - low) low i l) (at_one mins i l) (at_one own i l) h

    from_at : (i : ℕ) → i < high - low → KeepsAt own mins kinds (low + i) → KeepsRuleAt part_own part_mins part_kinds i
    from_at i l h = same_rule (sym (part_at kinds (high - low) low i l)) (sym (at_one mins i l)) (sym (at_one own i l)) h

    -- where the three cut columns keep the rule at all places, the run's entries from low to high keep it
    pub run_keeps : AllPlacesKeepRule (take (1 + high - (1 + low)) (drop (1 + low) own)) (take (1 + high - (1 + low)) (drop (1 + low) mins))
        (take (high - low) (drop low kinds)) → RunKeepsRule t p low high
    run_keeps all first is_first place from to =
        let i : ℕ = place - low in
        let l : i < high - low = omega arith in
        let at : low + i ≡ place = omega arith in
        let here : KeepsAt own mins kinds (low + i) = to_at i l (all i (omega arith) (let s = part_size in omega arith)) in
        subst (λ k. KeepsRule t (first * slot_count t.pattern + k)) at (keeps_at (low + i) (omega arith) here first is_first)

    -- the first breach in the cut columns, counted on from low, is the first bad place of the run between low and high
    pub run_bad : (i : ℕ) → IsFirstBreach (take (1 + high - (1 + low)) (drop (1 + low) own)) (take (1 + high - (1 + low)) (drop (1 + low) mins))
        (take (high - low) (drop low kinds)) i → IsFirstBadPlace t p low high (low + i)
    run_bad i is =
        let l : i < high - low = (let s = part_size in let k = is.there in omega arith) in
        record {
          from = omega arith;
          to = omega arith;
          bad = bad_at (low + i) (omega arith) (λ keeps. is.bad (from_at i l keeps));
          before = λ first is_first place from to.
              let k : ℕ = place - low in
              let m : k < high - low = omega arith in
              let at : low + k ≡ place = omega arith in
              subst (λ x. KeepsRule t (first * slot_count t.pattern + x))
              at (keeps_at (low + k) (omega arith) (to_at k m (is.before k (omega arith) (omega arith))) first is_first);
        }
