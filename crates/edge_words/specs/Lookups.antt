-- Where the entries of a run are looked up, and what they say.
use Rattle.std.specs.Prelude.{◌≡◌, ℕ, ◌+◌, ◌-◌, ◌*◌, ◌/◌, ◌<◌, true, IfSome, List, None, Option, length, slice_index, slice_index_or, take}
use Rattle.puz_board.specs.Boards.{IsBoardOf, blank}
use Rattle.puz_board.specs.Cells.{reverse_of, step_of}
use Rattle.puz_board.specs.Masks.{IsMaskOf}
use Rattle.pat_place.specs.Patterns.{ShownPattern, has}
use Rattle.pat_place.specs.Placements.{IsFree, placement_of}
use Rattle.pat_place.specs.Regions.{IsSlot}
use Rattle.tab_file.specs.Tables.{slot_count}
use Rattle.tab_rule.specs.ExactTables.{IsExactTable, SaysOfBoard}
use Rattle.tab_runs.specs.Rows.{row_length}
use Rattle.tab_runs.specs.RowTables.{AreRowsOf, rows_for}
use Rattle.tab_runs.specs.RunPlaces.{IsFirstRank, IsRun, run_length}
use Rattle.tab_runs.specs.Runs.{free_below, with_last}
use Rattle.edge_words.specs.StoredWords.{AreStrides}
use Rattle.edge_words.specs.Words.{move_of}
use Rattle.edge_words.specs.declared.lookups.Lookup.TheInside.{Inside}
use Rattle.edge_words.specs.declared.runs.RunView.{RunView}

-- for each cell and each move's number there is the cell from which the move leads there
pub record AreOrigins (n : ℕ) (origins : List (Option ℕ)) : Type 0 where
  pub room : length origins ≡ 100
  pub each : (k : ℕ) → k < 4 * (n * n) → slice_index_or origins k None ≡ step_of n (k / 4) (reverse_of (move_of k))

-- the entries are those of an exact table, and rows are kept for its side and number of tiles
pub record IsStoredLookup (l : Inside) : Type 0 where
  pub exact : IsExactTable (record { pattern = l.pattern; entries = l.entries.now })
  pub width : l.width ≡ slot_count l.pattern
  pub listed : l.listed ≡ row_length l.pattern.side (length l.pattern.tiles)
  pub rows : l.rows ≡ rows_for l.pattern
  pub origins : AreOrigins l.pattern.side l.origins
  pub strides : AreStrides l.pattern l.strides

-- of each board of the pattern's side, some entry says the least cost, or that there is none
abbrev pub HaveEntries : ShownPattern → Type 0
HaveEntries p = (b : List ℕ) → IsBoardOf p.side b → (e : ℕ) × SaysOfBoard p.tiles b e

-- the cells of all tiles but the last
abbrev pub but_last : ShownPattern → List ℕ → List ℕ
but_last p cells = take (length p.tiles - 1) cells

-- an entry says this of all boards with these cells and this blank
abbrev pub SaysOfAll : ShownPattern → List ℕ → ℕ → ℕ → Type 0
SaysOfAll p cells cell e = (b : List ℕ) → IsBoardOf p.side b → placement_of p.tiles b ≡ cells → blank b ≡ cell → SaysOfBoard p.tiles b e

-- these are the entries of the run with these cells, slot by slot
pub record AreEntriesOf (p : ShownPattern) (cells own : List ℕ) : Type 0 where
  pub size : length own ≡ run_length p.side cells * slot_count p
  pub each : (last cell slot : ℕ) → IsFree p.side cells last → IsSlot p.side (with_last cells last) cell slot
      → SaysOfAll p (with_last cells last) cell (slice_index own (free_below cells last * slot_count p + slot))

-- what is kept of a run is that of its cells
pub record IsRunOf (p : ShownPattern) (r : RunView) : Type 0 where
  pub room : length r.cells ≡ 8
  pub run : IsRun p (but_last p r.cells)
  pub set : IsMaskOf r.set (λ c. has (but_last p r.cells) c ≡ true)
  pub free : IsMaskOf r.free (IsFree p.side (but_last p r.cells))
  pub first : IsFirstRank p.side (but_last p r.cells) r.first
  pub own : AreEntriesOf p (but_last p r.cells) r.own.now
  pub rows : IfSome r.rows (λ rows. AreRowsOf p.side (length p.tiles) r.set rows.now)
