-- One tile's move in all placements of a run.
use Rattle.std.proofs.Common.{◌≡◌, ◌≢◌, ℕ, ◌*◌, ◌^◌, ◌<◌, true, List, length, get_or, set, sym, ◌∙◌, ap, subst, arith}
use Rattle.std.specs.Int.{bit_at}
use Rattle.puz_board.specs.Masks.{IsMaskOf}
use Rattle.pat_place.specs.Patterns.{IsPattern, has}
use Rattle.pat_place.specs.Placements.{IsFree}
use Rattle.puz_board.proofs.CellLemmas.{few_cells}
use Rattle.tab_file.specs.Tables.{Table}
use Rattle.tab_runs.specs.Rows.{IsRow, row_length}
use Rattle.tab_runs.specs.RowTables.{AreRowsOf, ShownRows, row_of, rows_for}
use Rattle.tab_runs.specs.RunPlaces.{AreRunEntries, IsRun}
use Rattle.tab_runs.specs.RunsOfTables.{IsRunOf}
use Rattle.tab_runs.specs.declared.runs.Run.{Run}
use Rattle.pat_place.proofs.ListLemmas.{all_at}
use Rattle.tab_runs.specs.Steps.{IsRowStep, IsTakenIn, IsTileStep}
use Rattle.tab_runs.proofs.MaskLemmas.{mask_moved}
use Rattle.tab_runs.proofs.RowLemmas.{row_low}
use Rattle.tab_runs.proofs.RunLemmas.{left_cell, run_moved}
use Rattle.tab_runs.proofs.StepLemmas.{row_from_tile, tile_from_row}
use Rattle.tab_runs.proofs.TakenLemmas.{taken_same}

-- the row that is found among those of a set
pub row_found : (t : Table) (v : ShownRows) (mask x : ℕ) (p rows row : List ℕ) → v ≡ rows_for t.pattern → x < t.pattern.side * t.pattern.side
    → AreRowsOf t.pattern.side (length t.pattern.tiles) mask rows
    → row ≡ row_of (row_length v.side v.tiles) rows x → IsMaskOf mask (λ c. has p c ≡ true) → IsRow t.pattern.side (length t.pattern.tiles) p x row
row_found t v mask x p rows row same low are row_is is =
    subst (IsRow t.pattern.side (length t.pattern.tiles) p x) (sym (row_is ∙ ap (λ u. row_of (row_length u.side u.tiles) rows x) same)) (are.each x low p is)

-- what is kept for a set serves the table
pub kept_rows : (t : Table) (v : ShownRows) (mask : ℕ) (rows : List ℕ) → v ≡ rows_for t.pattern → AreRowsOf v.side v.tiles mask rows
    → AreRowsOf t.pattern.side (length t.pattern.tiles) mask rows
kept_rows t v mask rows same are = subst (λ u. AreRowsOf u.side u.tiles mask rows) same are

-- the row that is found for the run's own set
pub own_row : (t : Table) (v : ShownRows) (r : Run) (x : ℕ) (row : List ℕ) → v ≡ rows_for t.pattern → IsRunOf t r
    → x < t.pattern.side * t.pattern.side → row ≡ row_of (row_length v.side v.tiles) r.rows.now x
    → IsRow t.pattern.side (length t.pattern.tiles) r.cells.now x row
own_row t v r x row same run low row_is = row_found t v r.set x r.cells.now r.rows.now row same low run.rows row_is run.set

-- what is known of the rows of a tile's move
pub record AreTileRows (t : Table) (p : List ℕ) (i f : ℕ) (to from : List ℕ) : Type 0 where
  pub pattern : IsPattern t.pattern
  pub run : IsRun t.pattern p
  pub low : i < length p
  pub free : IsFree t.pattern.side p f
  pub is_to : IsRow t.pattern.side (length t.pattern.tiles) p f to
  pub is_from : IsRow t.pattern.side (length t.pattern.tiles) (set p i f) (get_or p i 0) from

module _ (t : Table) (p : List ℕ) (i f : ℕ) (to from : List ℕ) (are : AreTileRows t p i f to from) where
  -- the cells after the tile's move are a run of the table
  pub moved_run : IsRun t.pattern (set p i f)
  moved_run = run_moved t.pattern p i f are.run are.free

  -- the row of the cell that was left is as long as that of the cell that is entered
  pub rows_size : length from ≡ length to
  rows_size = are.is_from.size ∙ sym are.is_to.size

  -- each byte of the row for the cell that was left names one of the moved run's bytes
  pub from_low : (near : List ℕ) → AreRunEntries t (set p i f) near → (c : ℕ) → c < length from → get_or from c 0 < length near
  from_low near entries c l =
      let low = row_low t.pattern are.pattern (set p i f) moved_run (get_or p i 0) from are.is_from
      (left_cell t.pattern.side p are.run.inside are.run.apart i f are.low are.free) c l in
      let e = entries.size in
      omega arith

  -- with all cells of the two rows taken in, the tile's move is taken in for all placements of the run
  pub tile_taken : (near old new : List ℕ) → AreRunEntries t (set p i f) near → IsTakenIn old new (IsRowStep to near from (length to))
      → IsTakenIn old new (IsTileStep t p i f)
  tile_taken near old new entries is = taken_same old new (IsRowStep to near from (length to)) (IsTileStep t p i f)
      (λ place e some s. tile_from_row t are.pattern p are.run i f are.low are.free near entries to from are.is_to are.is_from place e s)
      (λ place e some s. row_from_tile t are.pattern p are.run i f are.low are.free near entries to from are.is_to are.is_from place e s)
      is

-- the rows that are found for a tile's move
pub tile_rows : (t : Table) (v : ShownRows) (r : Run) (i f less more : ℕ) (kept to from : List ℕ) → IsPattern t.pattern → v ≡ rows_for t.pattern
    → IsRunOf t r → i < length r.cells.now → IsFree t.pattern.side r.cells.now f
    → less < 2 ^ 32 → bit_at less (get_or r.cells.now i 0) ≡ 0 → ((x : ℕ) → x < 32 → x ≢ get_or r.cells.now i 0 → bit_at less x ≡ bit_at r.set x)
    → bit_at more f ≡ 1 → ((x : ℕ) → x ≢ f → bit_at more x ≡ bit_at less x)
    → AreRowsOf v.side v.tiles more kept → to ≡ row_of (row_length v.side v.tiles) r.rows.now f
    → from ≡ row_of (row_length v.side v.tiles) kept (get_or r.cells.now i 0) → AreTileRows t r.cells.now i f to from
tile_rows t v r i f less more kept to from pat same run low free fits clear others_same here others are to_is from_is =
    let p = r.cells.now in
    let n = t.pattern.side in
    record {
      pattern = pat;
      run = run.run;
      low = low;
      free = free;
      is_to = own_row t v r f to same run free.0 to_is;
      is_from = row_found t v more (get_or p i 0) (set p i f) kept from same (all_at p i run.run.inside low) (kept_rows t v more kept same are) from_is
          (mask_moved n (few_cells n pat.low pat.high) p run.run.inside run.run.apart i f low r.set less more fits run.set clear others_same here others);
    }
