use Rattle.std.proofs.Common.{get_or, subst, ap}
use Rattle.puz_board.specs.Masks.{IsMaskOf}
use Rattle.puz_board.specs.Cells.{Adjacent}
use Rattle.tab_runs.proofs.LoopLemmas.{targets_all, targets_more, targets_start}
use Rattle.tab_runs.proofs.MaskLemmas.{targets_are}
use Rattle.tab_runs.proofs.near.take_index.Goals as goal

-- at first, all free cells beside the tile's are left, and no move of it is taken in
pub targets-init : goal.targets-init
targets-init c =
    let t = c.args.table.now in
    let cells = c.args.run.now.cells.now in
    let side = ap (λ v. v.side) c.requires.run.row_table in
    targets_start t c.pattern-pattern.ensures.table.pattern cells c.requires.run.run c.args.index c.requires.index c.args.mins.now _
    (targets_are t.pattern.side cells (get_or cells c.args.index 0) c.beside.result c.args.run.now.set c.beside.type_inv c.requires.run.bits
    (subst (λ n. IsMaskOf c.beside.result (Adjacent n (get_or cells c.args.index 0))) side c.beside.ensures) c.requires.run.set)

-- with the tile's move to one cell taken in, that cell is no longer left
pub targets-preserved : goal.targets-preserved
targets-preserved c =
    targets_more c.args.table.now c.pattern-pattern.ensures.table.pattern c.args.run.now.cells.now c.requires.run.run c.args.index c.requires.index
    c.args.mins.now c.targets.mins c.take_tile.new.mins c.targets.targets c.first_of-to.result c.without-targets.result c.targets.invariant
    (record {
      was = c.first_of-to.ensures.here;
      bits = c.without-targets.type_inv;
      here = c.without-targets.ensures.here;
      others = c.without-targets.ensures.others;
    })
    c.if-not-take_tile.ensures

-- when no target is left, all moves of the tile are taken in
pub returns : goal.returns
returns c = targets_all c.args.table.now c.pattern-pattern.ensures.table.pattern c.args.run.now.cells.now c.requires.run.run c.args.index
    c.requires.index c.args.mins.now c.targets.mins c.targets.targets c.targets.invariant c.targets-test.false
