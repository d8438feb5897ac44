-- What the columns of a block tell of its entries.
use Rattle.std.proofs.Common.{◌≡◌, ℕ, ◌+◌, ◌-◌, ◌*◌, ◌<◌, ◌≤◌, Bool, List, length, take, drop, get_or, inl, inr, sym, ◌∙◌, ap, subst, arith, length-drop}
use Rattle.std.specs.Prelude.{◌↔◌, IsTrue}
use Rattle.std.proofs.lemmas.Bool.{cases_lt}
use Rattle.std.proofs.lemmas.List.{get_or-drop, get_or-take, length-take-le}
use Rattle.pat_place.specs.Patterns.{ShownPattern}
use Rattle.tab_file.specs.Tables.{Table, slot_count}
use Rattle.tab_file.specs.EntryRules.{KeepsRuleOfKind}
use Rattle.tab_lanes.specs.LocalRule.{AllPlacesKeepRule, IsFirstBreach, KeepsRuleAt}
use Rattle.tab_rule.specs.Blocks.{BlockKeepsRule, IsInBlock, IsLeastBadIn}
use Rattle.tab_rule.specs.Entries.{IsEntryNumber}
use Rattle.tab_rule.specs.Limits.{IsPast, KeepsRuleUpTo, Ruled}
use Rattle.tab_rule.specs.LocalRule.{IsKindOf, IsLeastNear, LocalRule}
use Rattle.tab_rule.proofs.BlockLemmas.{rank_low}
use Rattle.tab_rule.proofs.CaseLemmas.{rule_by_numbers}
use Rattle.tab_rule.proofs.EntryNumberLemmas.{entry_cells, entry_placement, entry_rank}
use Rattle.tab_rule.proofs.LimitLemmas.{ruled_by_numbers}
use Rattle.tab_rule.proofs.TableLemmas.{number_below}
use Rattle.tab_columns.specs.BlockColumns.{AreBlockColumns, IsDescribed}
use Rattle.tab_columns.specs.Limits.{BlockIsPast, BlockKeepsUpTo}

-- a number is that of one placement and one slot
number_one : (p : ShownPattern) (cells others : List ℕ) (j k number : ℕ) → IsEntryNumber p cells j number → IsEntryNumber p others k number
    → (cells ≡ others) × (j ≡ k)
number_one p cells others j k number is also =
    let counted : number ≡ is.rank * slot_count p + j = is.counted in
    let also_counted : number ≡ also.rank * slot_count p + k = also.counted in
    let j_low : j < slot_count p = is.slot in
    let k_low : k < slot_count p = also.slot in
    let low : is.rank < also.rank + 1 = rank_low is.rank j (slot_count p) (also.rank + 1) (omega arith) in
    let high : also.rank < is.rank + 1 = rank_low also.rank k (slot_count p) (is.rank + 1) (omega arith) in
    let one : is.rank ≡ also.rank = omega arith in
    let scaled : is.rank * slot_count p ≡ also.rank * slot_count p = ap (λ r. r * slot_count p) one in
    (entry_cells also cells is.rank (entry_placement is).size (entry_rank is) one, omega arith)

module _ {t : Table} {block begin len : ℕ} {kinds least : List ℕ} (are : AreBlockColumns t block begin len kinds least) where
  -- ---- numbers and places

  place_of : (cells : List ℕ) (j number : ℕ) → IsInBlock t.pattern block number → IsEntryNumber t.pattern cells j number → (i : ℕ) × (i < len)
      × (begin + i ≡ number)
  place_of cells j number inside is =
      let from : block * 256 * slot_count t.pattern ≤ number = inside.from in
      let begins : begin ≡ block * 256 * slot_count t.pattern = are.begins in
      let low : number < begin + len = are.all number inside (number_below t.pattern cells j number is) in
      (number - begin, omega arith, omega arith)

  module _ (i : ℕ) (l : i < len) (cells : List ℕ) (j : ℕ) (is : IsEntryNumber t.pattern cells j (begin + i)) where
    kind_at : IsKindOf t.pattern cells j (get_or kinds i 0)
    kind_at =
        let d = (are.each i l).1 in
        let one = number_one t.pattern d.cells cells d.slot j (begin + i) d.is_number is in
        subst (λ q. IsKindOf t.pattern q j (get_or kinds i 0)) one.0 (subst (λ k. IsKindOf t.pattern d.cells k (get_or kinds i 0)) one.1 d.is_kind)

    least_at : IsLeastNear t cells j (get_or least i 0)
    least_at =
        let d = (are.each i l).1 in
        let one = number_one t.pattern d.cells cells d.slot j (begin + i) d.is_number is in
        subst (λ q. IsLeastNear t q j (get_or least i 0)) one.0 (subst (λ k. IsLeastNear t d.cells k (get_or least i 0)) one.1 d.is_least)

    -- an entry keeps the local rule exactly where its numbers do
    rule_at : (e : ℕ) → KeepsRuleOfKind (get_or kinds i 0) (get_or least i 0) e ↔ LocalRule t cells j e
    rule_at e = rule_by_numbers t cells j e (get_or kinds i 0) (get_or least i 0) kind_at least_at

    ruled_at : (Rule : ℕ → ℕ → ℕ → Type 0) (e : ℕ) → Rule (get_or kinds i 0) (get_or least i 0) e ↔ Ruled Rule t cells j e
    ruled_at Rule e = ruled_by_numbers Rule t cells j e (get_or kinds i 0) (get_or least i 0) kind_at least_at

  -- ---- the local rule

  module _ {own mins marks : List ℕ} (own_is : own ≡ take len (drop begin t.entries)) (mins_is : mins ≡ take len least)
      (marks_is : marks ≡ take len kinds) where
    -- the block has as many entries as the columns describe
    pub own_length : length own ≡ len
    own_length = ap length own_is ∙ length-take-le len (drop begin t.entries) (let within = are.within in let left = length-drop begin t.entries in omega arith)

    numbers_at : (i : ℕ) → i < len → (get_or marks i 0 ≡ get_or kinds i 0) × (get_or mins i 0 ≡ get_or least i 0)
        × (get_or own i 0 ≡ get_or t.entries (begin + i) 0)
    numbers_at i l = (
      ap (λ xs. get_or xs i 0) marks_is ∙ get_or-take len kinds i 0 l,
      ap (λ xs. get_or xs i 0) mins_is ∙ get_or-take len least i 0 l,
      ap (λ xs. get_or xs i 0) own_is ∙ get_or-take len (drop begin t.entries) i 0 l ∙ get_or-drop begin t.entries i 0,
    )

    -- the numbers at a place of the parts are those of its entry
    place_rule : (i : ℕ) → i < len → (cells : List ℕ) (j : ℕ) → IsEntryNumber t.pattern cells j (begin + i) → KeepsRuleAt own mins marks i
        ↔ LocalRule t cells j (get_or t.entries (begin + i) 0)
    place_rule i l cells j is =
        let same = numbers_at i l in
        let e : ℕ = get_or t.entries (begin + i) 0 in
        let both = rule_at i l cells j is e in
        subst (λ x. KeepsRuleOfKind x (get_or mins i 0) (get_or own i 0) ↔ LocalRule t cells j e) (sym same.0) (
        subst (λ x. KeepsRuleOfKind (get_or kinds i 0) x (get_or own i 0) ↔ LocalRule t cells j e) (sym same.1) (
        subst (λ x. KeepsRuleOfKind (get_or kinds i 0) (get_or least i 0) x ↔ LocalRule t cells j e) (sym same.2) both))

    kept : (i number : ℕ) → i < len → begin + i ≡ number → KeepsRuleAt own mins marks i → (cells : List ℕ) (j : ℕ)
        → IsEntryNumber t.pattern cells j number → LocalRule t cells j (get_or t.entries number 0)
    kept i number l at keeps cells j is =
        subst (λ x. LocalRule t cells j (get_or t.entries x 0))
        at ((place_rule i l cells j (subst (λ x. IsEntryNumber t.pattern cells j x) (sym at) is)).0 keeps)

    -- where each place of the columns keeps the rule, the block does
    pub block_keeps : AllPlacesKeepRule own mins marks → BlockKeepsRule t block
    block_keeps all number inside cells j is =
        let place = place_of cells j number inside is in
        kept place.0 number place.1 place.2 (all place.0 (omega arith) (let l : place.0 < len = place.1 in let same = own_length in omega arith)) cells j is

    -- the first place of the columns that breaks the rule is the least bad entry of the block
    pub block_least_bad : (place : ℕ) → IsFirstBreach own mins marks place → IsLeastBadIn t block (begin + place)
    block_least_bad place breach = record {
      in_block = (are.each place low).0;
      bad = record {
        cells = d.cells;
        slot = d.slot;
        is_number = d.is_number;
        breaks = λ rule. breach.bad ((place_rule place low d.cells d.slot d.is_number).1 rule);
      };
      least = λ other inside bad. elim (cases_lt other (begin + place)) [
        | inr k ↦ k
        | inl k ↦
            let at = place_of bad.cells bad.slot other inside bad.is_number in
            let same : begin + at.0 ≡ other = at.2 in
            absurd (bad.breaks (kept at.0 other at.1 at.2 (breach.before at.0 (omega arith) (omega arith)) bad.cells bad.slot bad.is_number))
      ];
    }
      where
        low : place < len
        low = let there = breach.there in let same = own_length in omega arith

        d : IsDescribed t (begin + place) (get_or kinds place 0) (get_or least place 0)
        d = (are.each place low).1

  -- ---- the rule up to a count

  module _ (most : ℕ) {entries : List ℕ} (same : entries ≡ t.entries) where
    -- a rule of the numbers at a place
    abbrev At : (ℕ → ℕ → ℕ → Type 0) → ℕ → Type 0
    At Rule i = Rule (get_or kinds i 0) (get_or least i 0) (get_or entries (begin + i) 0)

    -- holds there exactly where it holds of the entry
    ruled_there : (Rule : ℕ → ℕ → ℕ → Type 0) (i : ℕ) → i < len → (cells : List ℕ) (j : ℕ) → IsEntryNumber t.pattern cells j (begin + i) → At Rule i
        ↔ Ruled Rule t cells j (get_or t.entries (begin + i) 0)
    ruled_there Rule i l cells j is = subst (λ xs. Rule (get_or kinds i 0) (get_or least i 0) (get_or xs (begin + i) 0)
        ↔ Ruled Rule t cells j (get_or t.entries (begin + i) 0)) (sym same)
        (ruled_at i l cells j is Rule (get_or t.entries (begin + i) 0))

    -- where a place of the columns breaks the rule up to a count, the block does
    pub block_breaks : (i : ℕ) → i < len → ¬ At (KeepsRuleUpTo most) i → ¬ BlockKeepsUpTo most t block
    block_breaks i l breaks all =
        let has = are.each i l in
        let d = has.1 in
        breaks ((ruled_there (KeepsRuleUpTo most) i l d.cells d.slot d.is_number).1 (all (begin + i) has.0 d.cells d.slot d.is_number))

    keeps : ((i : ℕ) → i < len → At (KeepsRuleUpTo most) i) → BlockKeepsUpTo most t block
    keeps at number inside cells j is =
        let place = place_of cells j number inside is in
        subst (λ x. Ruled (KeepsRuleUpTo most) t cells j (get_or t.entries x 0)) place.2 (
        (ruled_there (KeepsRuleUpTo most) place.0 place.1 cells j (subst (λ x. IsEntryNumber t.pattern cells j x) (sym place.2) is)).0 (at place.0 place.1))

    past : (i : ℕ) → i < len → At (IsPast most) i → BlockIsPast most t block
    past i l at =
        let has = are.each i l in
        let d = has.1 in
        record {
          number = begin + i;
          in_block = has.0;
          past = record { cells = d.cells; slot = d.slot; is_number = d.is_number; past = (ruled_there (IsPast most) i l d.cells d.slot d.is_number).0 at };
        }

    place_past : BlockIsPast most t block → (i : ℕ) × (i < len) × At (IsPast most) i
    place_past is =
        let entry = is.past in
        let place = place_of entry.cells entry.slot is.number is.in_block entry.is_number in
        let at_place = subst (λ x. IsEntryNumber t.pattern entry.cells entry.slot x) (sym place.2) entry.is_number in
        let ruled = subst (λ x. Ruled (IsPast most) t entry.cells entry.slot (get_or t.entries x 0)) (sym place.2) entry.past in
        (place.0, place.1, (ruled_there (IsPast most) place.0 place.1 entry.cells entry.slot at_place).1 ruled)

    -- what holds at the places of a block tells whether an entry of it is past the count
    pub block_told : (has : Bool) → ((i : ℕ) → i < len → At (KeepsRuleUpTo most) i) → (IsTrue has → (i : ℕ) × (i < len) × At (IsPast most) i)
        → ((i : ℕ) → i < len → At (IsPast most) i → IsTrue has)
        → BlockKeepsUpTo most t block × (IsTrue has ↔ BlockIsPast most t block)
    block_told has kept some none = (
      keeps kept,
      (λ is. let at = some is in past at.0 at.1 at.2, λ is. let at = place_past is in none at.0 at.1 at.2),
    )
