use Rattle.std.proofs.Common.{◌<◌, length, refl, arith}
use Rattle.std.proofs.lemmas.Option.{slice_get_read}
use Rattle.tab_columns.proofs.FloodLemmas.{AreFree-start, AreFree-more}
use Rattle.tab_columns.proofs.floods.free_column.Goals as goal

-- before the first placement, all masks of the column are empty
pub loop-row-init : goal.loop-row-init
loop-row-init c = AreFree-start c.args.placements.now

-- with the free cells of one placement put in, the column is right up to that row
pub loop-row-preserved : goal.loop-row-preserved
loop-row-preserved c =
    let ps = c.args.placements.now in
    let low : c.loop-row.row < length ps = c.loop-row-test.true in
    let few = c.requires in
    AreFree-more ps c.loop-row.row c.loop-row.free c.index-placements-row.result c.free_cells.result (omega arith)
    (slice_get_read ps (length ps) c.loop-row.row c.index-placements-row.result refl low c.index-placements-row.is) c.free_cells.ensures.free
    c.free_cells.ensures.within c.loop-row.invariant
