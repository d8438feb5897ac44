-- The table of rows, set by set.
use Rattle.std.proofs.Common.{◌≡◌, ℕ, ◌+◌, ◌*◌, ◌<◌, ◌≤◌, true, List, length, drop, ◌∙◌, arith, length-drop}
use Rattle.std.proofs.lemmas.List.{get_or-drop, get_or-take, length-take-le}
use Rattle.std.proofs.Math.Nat.{mul-le-mul_right}
use Rattle.puz_board.specs.Masks.{IsMaskOf}
use Rattle.pat_place.specs.Patterns.{IsPattern, ShownPattern, has}
use Rattle.pat_place.proofs.SetLemmas.{same_of_mask}
use Rattle.tab_runs.specs.SetRows.{AreRowsUpTo}
use Rattle.tab_runs.specs.Rows.{IsRow, listed_below, row_length}
use Rattle.tab_runs.specs.RunPlaces.{IsRun}
use Rattle.tab_runs.specs.RowTables.{AreRowsOf, row_of}
use Rattle.tab_runs.proofs.RowLemmas.{listed_low, row_same}

module _ (p : ShownPattern) (pat : IsPattern p) (cells : List ℕ) (run : IsRun p cells) (block : List ℕ)
    (filled : AreRowsUpTo p.side (length p.tiles) cells (p.side * p.side) block) where
  abbrev len : ℕ
  len = row_length p.side (length p.tiles)

  -- a row of a block that is filled
  row_of_set : (x : ℕ) → x < p.side * p.side → IsRow p.side (length p.tiles) cells x (row_of (row_length p.side (length p.tiles)) block x)
  row_of_set x l = record {
    size = length-take-le len (drop (x * len) block) (let r = room in let k = length-drop (x * len) block in let s = filled.size in omega arith);
    place = λ c j o s.
        get_or-take len (drop (x * len) block) (listed_below cells x c) 0 (listed_low p pat cells run x c o) ∙
        get_or-drop (x * len) block (listed_below cells x c) 0 ∙
        filled.filled x c j o.last.0 o s;
  }
    where
      room : (x + 1) * len ≤ p.side * p.side * len
      room = mul-le-mul_right len (let s : x + 1 ≤ p.side * p.side = omega arith in s)

  -- the rows of a block are those of its mask, by each order of the cells
  pub rows_of_set : (mask : ℕ) → IsMaskOf mask (λ c. has cells c ≡ true) → AreRowsOf p.side (length p.tiles) mask block
  rows_of_set mask is = record {
    size = filled.size;
    each = λ cell inside q also. row_same p.side (length p.tiles) cells q (same_of_mask mask cells q is also) cell
        (row_of (row_length p.side (length p.tiles)) block cell) (row_of_set cell inside);
  }
