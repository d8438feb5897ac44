use Rattle.std.proofs.Common.{◌≡◌, ◌+◌, ◌-◌, ◌*◌, ◌≤◌, true, length, sym, ◌∙◌, ap, subst, arith}
use Rattle.std.proofs.lemmas.Bool.{both_ways}
use Rattle.puz_board.proofs.CellLemmas.{few_cells}
use Rattle.pat_place.specs.Patterns.{has}
use Rattle.pat_place.proofs.CountLemmas.{few_placements}
use Rattle.tab_file.specs.Tables.{slot_count}
use Rattle.tab_runs.specs.SetRows.{AreKindsUpTo, AreRowsUpTo}
use Rattle.tab_runs.proofs.HeldLemmas.{IsAtLast, IsRunOfSet, at_last, held_as, held_more, held_skip, held_start, regions_are, regions_few, run_of_set}
use Rattle.tab_runs.proofs.KindLemmas.{kinds_more, kinds_skip}
use Rattle.tab_runs.proofs.RunRanks.{free_below-low}
use Rattle.tab_runs.proofs.SetRowLemmas.{column_as, listed_some, listed_within, marked_as, set_rows_more, set_rows_skip}
use Rattle.tab_runs.proofs.set_rows.fill_rows.Goals as goal
use Rattle.tab_runs.proofs.set_rows.fill_rows.Goals.{After-rank_among, After-regions-regions, then-not-has_cell, else-not-has_cell}

of_set : (c : After-rank_among) → IsRunOfSet c.args.pattern.now c.args.cells.now c.args.set c.cells-count.result c.width-width.result
    (c.from.result - length c.args.cells.now) (c.rank_among.result * (c.from.result - length c.args.cells.now))
of_set c = run_of_set c.args.pattern.now c.side.ensures.pattern c.args.cells.now c.requires.run c.args.set c.rank_among.result c.requires.set
    c.side.ensures.side c.cells-count.ensures.value c.from.ensures c.width-width.ensures c.rank_among.ensures

-- at first, no row is filled, and the run's first placement is held
pub loop-last-init : goal.loop-last-init
loop-last-init c = record {
  of_set = of_set (goal.at.loop-last-init c).After-rank_among;
  held = held_start c.unrank-placement.ensures.pattern c.unrank-placement.ensures.placement c.unrank-placement.ensures.rank;
  rows = record { size = c.requires.size; filled = λ x d j l o s. absurd (omega arith) };
  kinds = c.requires.kinds;
}

-- the first rank of a run fits in 64 bits
pub overflow_mul-first : goal.overflow_mul-first
overflow_mul-first c =
    let low = (of_set (goal.at.overflow_mul-first c).After-rank_among).low in
    let few = few_placements c.args.pattern.now c.side.ensures.pattern in
    omega arith

-- the first rank of a run is that of some placement of the pattern
pub unrank-placement-requires : goal.unrank-placement-requires
unrank-placement-requires c = (of_set (goal.at.unrank-placement-requires c).After-rank_among).low

at_free : (c : After-regions-regions) → IsAtLast c.args.pattern.now c.args.cells.now c.loop-last.last
    (c.loop-last.free * c.width-width.result) c.loop-last.placement
at_free c = at_last c.loop-last.invariant.of_set c.loop-last.invariant.held c.loop-last-test.true c.has_cell.ensures c.if-not-has_cell.true

-- the number of slots before a free cell's placement fits in a byte
pub overflow_mul-before : goal.overflow_mul-before
overflow_mul-before c =
    let low = (at_free (goal.at.overflow_mul-before c).After-regions-regions).before_low in
    omega arith

-- the place of a free cell's first slot fits in a byte
pub overflow_add-column : goal.overflow_add-column
overflow_add-column c =
    let low = (at_free (goal.at.overflow_add-column c).After-regions-regions).before_low in
    omega arith

-- the places of all regions of a free cell's placement fit in a byte
pub fill_column-requires-clause-fits : goal.fill_column-requires-clause-fits
fill_column-requires-clause-fits c =
    let at = at_free (goal.at.fill_column-requires-clause-fits c).After-regions-regions in
    let few = regions_few at c.regions-regions.ensures.few in
    let low = at.before_low in
    let same = ap length c.as_slice.ensures.value in
    omega arith

-- a cell of some region below the last tile's has at least one free cell below that
pub fill_column-requires-clause-below : goal.fill_column-requires-clause-below
fill_column-requires-clause-below c =
    let is = c.loop-last.invariant.of_set in
    let at = at_free (goal.at.fill_column-requires-clause-below c).After-regions-regions in
    let are = regions_are at c.as_slice.ensures.value c.regions-regions.ensures.regions in
    listed_some c.args.pattern.now is.pattern c.args.cells.now is.run c.loop-last.last at.free c.as_slice.result.now are c.loop-last.invariant.held.count

-- a cell of some region has its place for the last tile's cell within its row
pub fill_column-requires-clause-within : goal.fill_column-requires-clause-within
fill_column-requires-clause-within c =
    let is = c.loop-last.invariant.of_set in
    let at = at_free (goal.at.fill_column-requires-clause-within c).After-regions-regions in
    let are = regions_are at c.as_slice.ensures.value c.regions-regions.ensures.regions in
    listed_within c.args.pattern.now is.pattern c.args.cells.now is.run c.loop-last.last at.free c.as_slice.result.now are
    c.loop-last.invariant.held.count c.cells_of_row-listed.ensures

-- the marks of a placement's regions end within the run's kinds
pub mark-requires : goal.mark-requires
mark-requires c =
    let at = at_free (goal.at.mark-requires c).After-regions-regions in
    let few = regions_few at c.regions-regions.ensures.few in
    let low = at.marks_low in
    let e = c.from-then-not-has_cell.ensures in
    let l = c.len.ensures.value in
    let k = c.loop-last.auto.kinds in
    let r = c.requires.room in
    omega arith

-- the count of free cells and one more fits in a byte
pub overflow_add-free : goal.overflow_add-free
overflow_add-free c =
    let p = c.args.pattern.now in
    let is = c.loop-last.invariant.of_set in
    let at = at_free (goal.at.overflow_add-free c).After-regions-regions in
    let low = free_below-low p.side c.args.cells.now c.loop-last.last is.run.inside is.run.apart at.free in
    let few = few_cells p.side is.pattern.low is.pattern.high in
    let e = c.loop-last.invariant.held.count in
    omega arith

-- with the column and the marks of one cell, or past a tile's cell, rows and kinds are filled for one cell more
pub loop-last-preserved : goal.loop-last-preserved
loop-last-preserved c =
    let p = c.args.pattern.now in
    let cells = c.args.cells.now in
    let last = c.loop-last.last in
    let is = c.loop-last.invariant.of_set in
    let held = c.loop-last.invariant.held in
    elim c.if-not-has_cell.branch [
      | then-not-has_cell w ↦
          let at = at_last is held c.loop-last-test.true c.has_cell.ensures w.if-not-has_cell.true in
          let regions = w.as_slice.result.now in
          let are = regions_are at w.as_slice.ensures.value w.regions-regions.ensures.regions in
          let counted = ap length w.as_slice.ensures.value in
          let few : length regions ≤ slot_count p = (let f = regions_few at w.regions-regions.ensures.few in omega arith) in
          let column = column_as last regions c.loop-last.set_rows w.fill_column.new.set_rows c.cells_of_row-listed.ensures held.count at.before_is
          is.board w.fill_column.ensures in
          let marked = marked_as c.loop-last.kinds w.mark.new.kinds (w.from-then-not-has_cell.ensures ∙ at.before_is)
          (w.len.ensures.value ∙ sym counted) w.mark.ensures in
          record {
            of_set = is;
            held = held_as w.free-is w.placement-is (held_more is held w.next.result at.free.1 w.next.ensures.pattern w.next.ensures.placement
                w.next.ensures.step);
            rows = subst (AreRowsUpTo p.side (length p.tiles) cells (last + 1)) (sym w.set_rows-is)
                (set_rows_more p is.pattern cells is.run last at.free regions are c.loop-last.set_rows w.fill_column.new.set_rows
                c.loop-last.invariant.rows w.fill_column.auto.set_rows column);
            kinds = subst (AreKindsUpTo p.side (slot_count p) cells (last + 1)) (sym w.kinds-is)
                (kinds_more p.side (slot_count p) cells last c.loop-last.kinds c.loop-last.invariant.kinds at.free regions w.mark.new.kinds are few marked);
          }
      | else-not-has_cell w ↦
          let taken : has cells last ≡ true = (c.requires.set last).0 (c.has_cell.ensures.0 w.if-not-has_cell.false) in
          record {
            of_set = is;
            held = held_as w.free-is w.placement-is (held_skip is held taken);
            rows = subst (AreRowsUpTo p.side (length p.tiles) cells (last + 1)) (sym w.set_rows-is)
                (set_rows_skip p.side (length p.tiles) cells last c.loop-last.set_rows c.loop-last.invariant.rows (λ f. both_ways (has cells last) f.1 taken));
            kinds = subst (AreKindsUpTo p.side (slot_count p) cells (last + 1)) (sym w.kinds-is)
                (kinds_skip p.side (slot_count p) cells last c.loop-last.kinds c.loop-last.invariant.kinds (λ f. both_ways (has cells last) f.1 taken));
          }
    ]

-- with all cells done, the rows are those of the run, and the kinds too
pub returns : goal.returns
returns c =
    let p = c.args.pattern.now in
    let end : c.loop-last.last ≡ p.side * p.side = (let l = c.loop-last-test.false in let m = c.loop-last.auto.last-end in
    let board = c.loop-last.invariant.of_set.board in omega arith) in
    record {
      rows = subst (λ k. AreRowsUpTo p.side (length p.tiles) c.args.cells.now k c.loop-last.set_rows) end c.loop-last.invariant.rows;
      kinds = subst (λ k. AreKindsUpTo p.side (slot_count p) c.args.cells.now k c.loop-last.kinds) end c.loop-last.invariant.kinds;
    }
