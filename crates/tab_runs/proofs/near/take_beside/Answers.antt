use Rattle.std.proofs.Common.{ap, subst}
use Rattle.puz_board.specs.Masks.{IsMaskOf}
use Rattle.puz_board.specs.Cells.{Adjacent}
use Rattle.tab_runs.proofs.LoopLemmas.{beside_all, beside_more, beside_start}
use Rattle.tab_runs.proofs.near.take_beside.Goals as goal

-- at first, the cells beside a that the mask has are left, and nothing is taken in of them
pub targets-init : goal.targets-init
targets-init c =
    let t = c.args.table.now in
    let side = ap (λ v. v.side) c.requires.last.run.row_table in
    beside_start t c.pattern-pattern.ensures.table.pattern c.args.last.now.run.cells.now c.args.a c.args.mask c.args.mins.now c.beside.result
    (subst (λ n. IsMaskOf c.beside.result (Adjacent n c.args.a)) side c.beside.ensures)

-- with the pair of a and one cell beside it taken in, that cell is no longer left
pub targets-preserved : goal.targets-preserved
targets-preserved c =
    beside_more c.args.table.now c.pattern-pattern.ensures.table.pattern c.args.last.now.run.cells.now c.args.a c.args.mask c.args.mins.now
    c.targets.mins c.take_pair.new.mins c.targets.targets c.first_of-b.result c.without-targets.result c.targets.invariant
    (record {
      was = c.first_of-b.ensures.here;
      bits = c.without-targets.type_inv;
      here = c.without-targets.ensures.here;
      others = c.without-targets.ensures.others;
    })
    c.take_pair.ensures

-- when no target is left, the last tile's moves between a and the mask's cells are taken in
pub returns : goal.returns
returns c = beside_all c.args.table.now c.pattern-pattern.ensures.table.pattern c.args.last.now.run.cells.now c.args.a c.args.mask c.args.mins.now
    c.targets.mins c.targets.targets c.targets.invariant c.targets-test.false
