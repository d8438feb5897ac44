use Rattle.std.proofs.Common.{ℕ, None, get_or, replicate, sym, ◌∙◌, subst, arith}
use Rattle.std.proofs.lemmas.List.{get_or-replicate, length-replicate}
use Rattle.tab_rule.specs.LocalRule.{IsLeastOf}
use Rattle.tab_columns.specs.Moves.{IsEntryTowards, IsRegion}
use Rattle.tab_columns.proofs.ColumnLemmas.{cell_step, each_all, each_none, entries_more, found_fits, part_at, part_size, row_is, step_fits}
use Rattle.tab_columns.proofs.neighbours.entries_towards.Goals as goal

-- before the first placement, all entries of the column are 255
pub loop-row-init : goal.loop-row-init
loop-row-init c = record {
  each = each_none c.args.table.now.pattern c.args.placements.now
      (λ cells j. IsLeastOf (IsEntryTowards c.args.table.now cells j c.args.index c.args.mv)) (replicate {A = ℕ} 2048 255);
  len = length-replicate {A = ℕ} 2048 255;
  empty = λ i l k. get_or-replicate {A = ℕ} 2048 i 255 0 k;
}

-- the placement that the loop is at is of the table's pattern
pub entry_after_step-found-requires-clause-pattern : goal.entry_after_step-found-requires-clause-pattern
entry_after_step-found-requires-clause-pattern c =
    (row_is c.requires.columns.table c.requires.columns.placements c.requires.columns.few c.pattern-pattern.ensures.pattern
    (c.from-width.ensures ∙ c.width.ensures) c.loop-row-test.true c.index-placements-row.is).of.0

-- what the loop is at is a placement of the table
pub entry_after_step-found-requires-clause-placement : goal.entry_after_step-found-requires-clause-placement
entry_after_step-found-requires-clause-placement c =
    (row_is c.requires.columns.table c.requires.columns.placements c.requires.columns.few c.pattern-pattern.ensures.pattern
    (c.from-width.ensures ∙ c.width.ensures) c.loop-row-test.true c.index-placements-row.is).of.1

-- the part with the masks of one placement ends within the column of masks
pub slice_bounds-regions-end : goal.slice_bounds-regions-end
slice_bounds-regions-end c =
    let is = row_is c.requires.columns.table c.requires.columns.placements c.requires.columns.few c.pattern-pattern.ensures.pattern
    (c.from-width.ensures ∙ c.width.ensures) c.loop-row-test.true c.index-placements-row.is in
    let at = is.at in
    let fits = is.fits in
    omega arith

-- a placement's part of the masks has one mask for each slot
pub entry_after_step-found-requires-clause-size : goal.entry_after_step-found-requires-clause-size
entry_after_step-found-requires-clause-size c =
    part_size (row_is c.requires.columns.table c.requires.columns.placements c.requires.columns.few c.pattern-pattern.ensures.pattern
    (c.from-width.ensures ∙ c.width.ensures) c.loop-row-test.true c.index-placements-row.is)
    c.args.masks.now c.told-masks

-- a placement's part of the masks has the regions of its slots
pub entry_after_step-found-requires-clause-regions : goal.entry_after_step-found-requires-clause-regions
entry_after_step-found-requires-clause-regions c j l =
    let v = c.index-placements-row.result in
    let is = row_is c.requires.columns.table c.requires.columns.placements c.requires.columns.few c.pattern-pattern.ensures.pattern
    (c.from-width.ensures ∙ c.width.ensures) c.loop-row-test.true c.index-placements-row.is in
    subst (IsRegion c.args.table.now.pattern.side v.cells j) (sym (part_at is c.args.masks.now j l))
    (c.requires.columns.regions c.loop-row.row j v c.loop-row-test.true is.get l)

-- the cell to which the tile's move leads is one that a mask may have
pub entry_after_step-found-requires-clause-to : goal.entry_after_step-found-requires-clause-to
entry_after_step-found-requires-clause-to c =
    let is = row_is c.requires.columns.table c.requires.columns.placements c.requires.columns.few c.pattern-pattern.ensures.pattern
    (c.from-width.ensures ∙ c.width.ensures) c.loop-row-test.true c.index-placements-row.is in
    let steps = cell_step c.requires.columns.table is.of c.requires.index c.args.mv c.cells_towards-beside.result c.pattern-pattern.ensures.pattern
    c.side.ensures.side c.cells_towards-beside.ensures (c.from.ensures ∙ c.cell.ensures.cell) in
    step_fits c.requires.columns.table is.of c.requires.index c.args.mv (get_or c.cells_towards-beside.result c.from.result None) steps

-- the entry that is found for a placement goes within the column
pub put_found-requires : goal.put_found-requires
put_found-requires c =
    let is = row_is c.requires.columns.table c.requires.columns.placements c.requires.columns.few c.pattern-pattern.ensures.pattern
    (c.from-width.ensures ∙ c.width.ensures) c.loop-row-test.true c.index-placements-row.is in
    let steps = cell_step c.requires.columns.table is.of c.requires.index c.args.mv c.cells_towards-beside.result c.pattern-pattern.ensures.pattern
    c.side.ensures.side c.cells_towards-beside.ensures (c.from.ensures ∙ c.cell.ensures.cell) in
    found_fits is c.args.index c.args.mv c.entry_after_step-found.result (c.entry_after_step-found.ensures c.args.mv steps)

-- with the entry of one placement put in, the column is right for one placement more
pub loop-row-preserved : goal.loop-row-preserved
loop-row-preserved c =
    let is = row_is c.requires.columns.table c.requires.columns.placements c.requires.columns.few c.pattern-pattern.ensures.pattern
    (c.from-width.ensures ∙ c.width.ensures) c.loop-row-test.true c.index-placements-row.is in
    let steps = cell_step c.requires.columns.table is.of c.requires.index c.args.mv c.cells_towards-beside.result c.pattern-pattern.ensures.pattern
    c.side.ensures.side c.cells_towards-beside.ensures (c.from.ensures ∙ c.cell.ensures.cell) in
    let more = entries_more is c.args.index c.args.mv c.loop-row.entries c.put_found.new.entries c.entry_after_step-found.result
    (c.entry_after_step-found.ensures c.args.mv steps) c.put_found.ensures
    c.loop-row.invariant.each c.loop-row.invariant.len c.loop-row.invariant.empty in
    record { each = more.0; len = more.1; empty = more.2 }

-- the column of the entries after one move has its length
pub returns-clause-len : goal.returns-clause-len
returns-clause-len c = c.loop-row.invariant.len

-- each slot of all placements has the entry after that move, or 255
pub returns-clause-each : goal.returns-clause-each
returns-clause-each c = each_all c.args.table.now.pattern c.args.placements.now
    (λ cells j. IsLeastOf (IsEntryTowards c.args.table.now cells j c.args.index c.args.mv)) c.loop-row.row c.loop-row.entries c.loop-row-test.false
    c.loop-row.invariant.each
