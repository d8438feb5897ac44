-- The rows of two free cells, and where each cell stands in the other's.
use Rattle.std.proofs.Common.{◌≡◌, ℕ, ◌+◌, ◌-◌, ◌*◌, ◌<◌, List, length, get_or, sym, ◌∙◌, ap, subst, arith}
use Rattle.pat_place.specs.Patterns.{IsPattern}
use Rattle.pat_place.specs.Placements.{IsFree}
use Rattle.tab_file.specs.Tables.{Table}
use Rattle.tab_runs.specs.Rows.{IsOpen, IsRow, listed_below, row_length}
use Rattle.tab_runs.specs.RunPlaces.{AreFreeBelow}
use Rattle.tab_runs.specs.RunsOfTables.{IsRunOf}
use Rattle.tab_runs.specs.Steps.{IsSingleStep, IsPairStep, IsTakenIn}
use Rattle.tab_runs.specs.RowTables.{ShownRows, row_of, rows_for}
use Rattle.tab_runs.specs.declared.runs.Run.{Run}
use Rattle.tab_runs.proofs.ListedLemmas.{listed_both}
use Rattle.tab_runs.proofs.LoopLemmas.{one_as, own_low, pair_taken}
use Rattle.tab_runs.proofs.RowLemmas.{listed_low}
use Rattle.tab_runs.proofs.TileLemmas.{own_row}

-- the row of x has at the index the place of c, and the run an entry for it
pub record IsInRow (t : Table) (p own : List ℕ) (x c : ℕ) (row : List ℕ) (index : ℕ) : Type 0 where
  pub is_row : IsRow t.pattern.side (length t.pattern.tiles) p x row
  pub index_is : index ≡ listed_below p x c
  pub low : index < length row
  pub entry_low : {place : ℕ} → place ≡ get_or row index 0 → place < length own

-- what is known of two free cells of a run, in their order
pub record ArePair (t : Table) (v : ShownRows) (r : Run) (below : List ℕ) (a b : ℕ) : Type 0 where
  pub pattern : IsPattern t.pattern
  pub rows : v ≡ rows_for t.pattern
  pub run : IsRunOf t r
  pub counts : AreFreeBelow r.cells.now (t.pattern.side * t.pattern.side) below
  pub free_a : IsFree t.pattern.side r.cells.now a
  pub free_b : IsFree t.pattern.side r.cells.now b
  pub order : a < b

module _ {t : Table} {v : ShownRows} {r : Run} {below : List ℕ} {a b : ℕ} (are : ArePair t v r below a b) where
  both : (get_or below a 0 ≡ listed_below r.cells.now b a) × (get_or below b 0 ≡ listed_below r.cells.now a b + 1)
  both = listed_both t.pattern.side r.cells.now below a b are.counts are.free_a are.free_b are.order

  in_row : (x c : ℕ) → IsOpen t.pattern.side r.cells.now x c → {index : ℕ} {row : List ℕ} → index ≡ listed_below r.cells.now x c
      → row ≡ row_of (row_length v.side v.tiles) r.rows.now x → IsInRow t r.cells.now r.own.now x c row index
  in_row x c opens {index} {row} index_is row_is =
      let is = own_row t v r x row are.rows are.run opens.cell.0 row_is in
      let low = listed_low t.pattern are.pattern r.cells.now are.run.run x c opens in
      record {
        is_row = is;
        index_is = index_is;
        low = (let size = is.size in omega arith);
        entry_low = λ e. subst (λ place. place < length r.own.now) (sym (e ∙ ap (λ i. get_or row i 0) index_is))
            (own_low t are.pattern r.cells.now are.run.run r.own.now are.run.own x c row is opens);
      }

  -- at least one free cell is below the higher of two free cells
  pub one_below : {at : ℕ} → at ≡ b → 0 < get_or below at 0
  one_below at_is = let e = ap (λ i. get_or below i 0) at_is ∙ both.1 in omega arith

  -- the row of the higher cell has the lower one at the number of free cells below that
  pub a_in_row : {at index : ℕ} {row : List ℕ} → at ≡ a → index ≡ get_or below at 0 → row ≡ row_of (row_length v.side v.tiles) r.rows.now b
      → IsInRow t r.cells.now r.own.now b a row index
  a_in_row at_is index_is row_is = in_row b a (record { last = are.free_a; cell = are.free_b; other = λ e. let l = are.order in omega arith })
      (index_is ∙ ap (λ i. get_or below i 0) at_is ∙ both.0) row_is

  -- the row of the lower cell has the higher one at the number of free cells below that, less one for the lower
  pub b_in_row : {at index : ℕ} {row : List ℕ} → at ≡ b → index ≡ get_or below at 0 - 1 → row ≡ row_of (row_length v.side v.tiles) r.rows.now a
      → IsInRow t r.cells.now r.own.now a b row index
  b_in_row at_is index_is row_is =
      let e = ap (λ i. get_or below i 0) at_is ∙ both.1 in
      in_row a b (record { last = are.free_b; cell = are.free_a; other = λ e. let l = are.order in omega arith }) (omega arith) row_is

  -- each of the two entries is taken in at the other's place
  pub pair_met : {row_a row_b : List ℕ} {index_a index_b : ℕ} → IsInRow t r.cells.now r.own.now b a row_b index_a
      → IsInRow t r.cells.now r.own.now a b row_a index_b
      → (old mid new : List ℕ) {place_a place_b : ℕ} → place_a ≡ get_or row_b index_a 0 → place_b ≡ get_or row_a index_b 0
      → IsTakenIn old mid (IsSingleStep (get_or row_b index_a 0) (get_or r.own.now place_b 0))
      → IsTakenIn mid new (IsSingleStep (get_or row_a index_b 0) (get_or r.own.now place_a 0))
      → IsTakenIn old new (IsPairStep t r.cells.now a b)
  pair_met {row_a} {row_b} {index_a} {index_b} in_b in_a old mid new {place_a} {place_b} a_is b_is first second =
      let p = r.cells.now in
      let own = r.own.now in
      let at_a : get_or row_b index_a 0 ≡ get_or row_b (listed_below p b a) 0 = ap (λ i. get_or row_b i 0) in_b.index_is in
      let at_b : get_or row_a index_b 0 ≡ get_or row_a (listed_below p a b) 0 = ap (λ i. get_or row_a i 0) in_a.index_is in
      pair_taken t are.pattern p are.run.run own are.run.own a b are.free_a are.free_b (λ e. let l = are.order in
      omega arith) row_a row_b in_a.is_row in_b.is_row old mid new
      (one_as old mid (get_or row_b index_a 0) (get_or row_b (listed_below p b a) 0) (get_or own place_b 0)
      (get_or own (get_or row_a (listed_below p a b) 0) 0) at_a (ap (λ i. get_or own i 0) (b_is ∙ at_b)) first)
      (one_as mid new (get_or row_a index_b 0) (get_or row_a (listed_below p a b) 0) (get_or own place_a 0)
      (get_or own (get_or row_b (listed_below p b a) 0) 0) at_b (ap (λ i. get_or own i 0) (a_is ∙ at_a)) second)
