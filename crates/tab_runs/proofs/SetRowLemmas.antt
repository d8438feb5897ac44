-- The rows of one set of cells, column by column.
use Rattle.std.proofs.Common.{◌≡◌, ◌≢◌, ℕ, ◌+◌, ◌*◌, ◌<◌, List, length, get_or, set, inl, inr, refl, sym, ◌∙◌, ap, subst, arith, get_or-set_same}
use Rattle.std.proofs.Common.{get_or-set_other}
use Rattle.std.specs.Int.{bit_at}
use Rattle.std.proofs.lemmas.Bool.{cases_eq, cases_lt}
use Rattle.pat_place.specs.Patterns.{IsPattern, ShownPattern}
use Rattle.pat_place.specs.Placements.{IsFree}
use Rattle.pat_place.specs.Regions.{AreRegions, IsSlot}
use Rattle.pat_place.proofs.SlotLemmas.{slot_one}
use Rattle.tab_rule.proofs.RegionLemmas.{none_past}
use Rattle.tab_file.specs.Tables.{slot_count}
use Rattle.tab_runs.specs.SetRows.{AreMarked, AreRowsUpTo, IsColumn, IsInSome, IsNumbered, listed_of}
use Rattle.tab_runs.specs.Rows.{IsOpen, listed_below, place_in_run, row_length}
use Rattle.tab_runs.specs.RunPlaces.{IsRun}
use Rattle.tab_runs.specs.Runs.{free_below, with_last}
use Rattle.tab_runs.proofs.ListedLemmas.{listed_behind, listed_is}
use Rattle.tab_runs.proofs.RunRanks.{free_below-one}
use Rattle.tab_runs.proofs.RowLemmas.{listed_low, parts_one}
use Rattle.tab_runs.proofs.RunLemmas.{free-with_last, with_last-free}

-- ---- one column

module _ (m c free before : ℕ) (regions : List ℕ) (x : ℕ) (old mid : List ℕ) (within : (y : ℕ) → IsInSome regions y → listed_of c free y < m)
    (column : IsColumn m c free before regions x old mid) where
  -- a cell that is in a region gets the region's number in its row, and the column is filled for one cell more
  pub column_set : x * m + listed_of c free x < length mid → (j : ℕ) → j < length regions → bit_at (get_or regions j 0) x ≡ 1
      → IsColumn m c free before regions (x + 1) old (set mid (x * m + listed_of c free x) (before + j))
  column_set inside j l bit = record {
    filled = λ y k some. elim (cases_eq y x) [
      | inl e ↦ subst (λ z. IsNumbered regions before z (get_or (set mid (x * m + listed_of c free x) (before + j)) (z * m + listed_of c free z) 0)) (sym e)
          (j, l, bit, get_or-set_same mid (x * m + listed_of c free x) (before + j) 0 inside)
      | inr ne ↦ subst (IsNumbered regions before y)
          (sym (get_or-set_other mid (x * m + listed_of c free x) (y * m + listed_of c free y) (before + j) 0
          (λ e. ne (parts_one y x m (listed_of c free y) (listed_of c free x) (within y some) (within x (j, l, bit)) e).0)))
          (column.filled y (omega arith) some)
    ];
    others = λ i out. get_or-set_other mid (x * m + listed_of c free x) i (before + j) 0 (out x (omega arith) (j, l, bit))
        ∙ column.others i (λ y k some. out y (omega arith) some);
  }

  -- a cell that is in no region leaves its row as it is, and the column is filled for one cell more
  pub column_skip : ((j : ℕ) → j < length regions → bit_at (get_or regions j 0) x ≢ 1) → IsColumn m c free before regions (x + 1) old mid
  column_skip none = record {
    filled = λ y k some. elim (cases_eq y x) [
      | inl e ↦ absurd (none some.0 some.1 (subst (λ z. bit_at (get_or regions some.0 0) z ≡ 1) e some.2))
      | inr ne ↦ column.filled y (omega arith) some
    ];
    others = λ i out. column.others i (λ y k some. out y (omega arith) some);
  }

-- a column, and marks, by other names of their numbers
pub column_as : (c : ℕ) (regions old new : List ℕ) {m n place free before from count board : ℕ} → m ≡ n → place ≡ free → before ≡ from → count ≡ board
    → IsColumn m c place (1 + before) regions count old new → IsColumn n c free (1 + from) regions board old new
column_as c regions old new {m} {n} {place} {free} {before} {from} {count} {board} m_is place_is before_is count_is is =
    subst (λ k. IsColumn k c free (1 + from) regions board old new) m_is (
    subst (λ k. IsColumn m c k (1 + from) regions board old new) place_is (
    subst (λ k. IsColumn m c place (1 + k) regions board old new) before_is (
    subst (λ k. IsColumn m c place (1 + before) regions k old new) count_is is)))

-- bytes that are marked are so too where their first place and their number have other names
pub marked_as : (old new : List ℕ) {at before count many : ℕ} → at ≡ before → count ≡ many → AreMarked at count old new → AreMarked before many old new
marked_as old new {at} {before} {count} {many} at_is count_is is = subst (λ k. AreMarked k many old new) at_is (subst (λ k. AreMarked at k old new) count_is is)

-- ---- one cell of the last tile more

-- a cell that a tile is in
pub set_rows_skip : (n k : ℕ) (cells : List ℕ) (c : ℕ) (block : List ℕ) → AreRowsUpTo n k cells c block → ¬ IsFree n cells c
    → AreRowsUpTo n k cells (c + 1) block
set_rows_skip n k cells c block set_rows taken = record {
  size = set_rows.size;
  filled = λ x d j l o s. elim (cases_eq d c) [
    | inl e ↦ absurd (taken (subst (IsFree n cells) e o.last))
    | inr ne ↦ set_rows.filled x d j (omega arith) o s
  ];
}

-- a free cell
module _ (p : ShownPattern) (pat : IsPattern p) (cells : List ℕ) (run : IsRun p cells) (c : ℕ) (free : IsFree p.side cells c) (regions : List ℕ)
    (are : AreRegions p.side (with_last cells c) regions) where
  some_open : (x : ℕ) → IsInSome regions x → IsOpen p.side cells x c
  some_open x some =
      let in_region = (are.each some.0 x some.1).0 some.2 in
      let w = with_last-free p.side cells c x in_region.free in
      record { last = free; cell = w.0; other = w.1 }

  listed_as : (x : ℕ) → IsInSome regions x → listed_of c (free_below cells c) x ≡ listed_below cells x c
  listed_as x some = listed_is cells x (some_open x some).cell.1 c (free_below cells c) refl

  -- the row of a cell in some region lists fewer cells below the last tile's than it has places
  pub listed_within : {place : ℕ} → place ≡ free_below cells c → {listed : ℕ} → listed ≡ row_length p.side (length p.tiles) → (x : ℕ)
      → IsInSome regions x → listed_of c place x < listed
  listed_within {place} at all x some = let low = listed_low p pat cells run x c (some_open x some) in
      let e = listed_is cells x (some_open x some).cell.1 c place at in omega arith

  -- where a cell of some region is below the last tile's, at least one free cell is
  pub listed_some : {place : ℕ} → place ≡ free_below cells c → (x : ℕ) → IsInSome regions x → x < c → 0 < place
  listed_some at x some l = let e = listed_behind cells x (some_open x some).cell.1 c l in omega arith

  is_in_some : (x j : ℕ) → IsSlot p.side (with_last cells c) x j → IsInSome regions x
  is_in_some x j s = elim (cases_lt j (length regions)) [
    | inl l ↦ (j, l, (are.each j x l).1 s)
    | inr l ↦ absurd (none_past p.side (with_last cells c) regions are j l x s)
  ]

  module _ (old new : List ℕ) (set_rows : AreRowsUpTo p.side (length p.tiles) cells c old) (size : length new ≡ length old)
      (column : IsColumn (row_length p.side (length p.tiles)) c (free_below cells c) (1 + free_below cells c * slot_count p) regions
      (p.side * p.side) old new) where
    abbrev len : ℕ
    len = row_length p.side (length p.tiles)

    at_column : (x j : ℕ) → IsOpen p.side cells x c → IsSlot p.side (with_last cells c) x j
        → get_or new (x * len + listed_below cells x c) 0 ≡ place_in_run (slot_count p) cells c j
    at_column x j o s =
        let some = is_in_some x j s in
        let f = column.filled x o.cell.0 some in
        ap (λ k. get_or new (x * len + k) 0) (sym (listed_as x some)) ∙ f.3 ∙
        ap (λ k. 1 + free_below cells c * slot_count p + k) (slot_one p.side pat.low pat.high (with_last cells c) x f.0 j ((are.each f.0 x f.1).0 f.2) s)

    kept : (x d : ℕ) → IsOpen p.side cells x d → d ≢ c → get_or new (x * len + listed_below cells x d) 0 ≡ get_or old (x * len + listed_below cells x d) 0
    kept x d o ne = column.others (x * len + listed_below cells x d) (λ y k some e.
        let parts = parts_one x y len (listed_below cells x d) (listed_of c (free_below cells c) y) (listed_low p pat cells run x d o)
        (listed_within refl refl y some) e in
        let also : IsOpen p.side cells x c = subst (λ z. IsOpen p.side cells z c) (sym parts.0) (some_open y some) in
        let same : listed_below cells x d ≡ listed_below cells x c = parts.1 ∙ listed_as y some ∙ ap (λ z. listed_below cells z c) (sym parts.0) in
        ne (free_below-one p.side (with_last cells x) d c (free-with_last p.side cells x d o.last (λ q. o.other (sym q)))
        (free-with_last p.side cells x c also.last (λ q. also.other (sym q))) same))

    -- with the column of a free cell filled in, the rows are filled for one cell of the last tile more
    pub set_rows_more : AreRowsUpTo p.side (length p.tiles) cells (c + 1) new
    set_rows_more = record {
      size = size ∙ set_rows.size;
      filled = λ x d j l o s. elim (cases_eq d c) [
        | inl e ↦ subst (λ q. get_or new (x * len + listed_below cells x q) 0 ≡ place_in_run (slot_count p) cells q j) (sym e)
            (at_column x j (subst (IsOpen p.side cells x) e o) (subst (λ q. IsSlot p.side (with_last cells q) x j) e s))
        | inr ne ↦ kept x d o ne ∙ set_rows.filled x d j (omega arith) o s
      ];
    }
