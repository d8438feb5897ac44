use Rattle.std.proofs.Common.{◌+◌, ◌/◌, ◌%◌, ◌<◌, set, replicate, sym, ◌∙◌, ap, subst}
use Rattle.std.specs.Prelude.{count_ones}
use Rattle.pat_place.proofs.RankSteps.{IsUnranking, IsUnranking-start, IsUnranking-block, IsUnranking-free, IsUnranking-more, IsUnranking-all}
use Rattle.pat_place.proofs.ranks.cells_at.Goals as goal

-- before a cell is put down, all are free, and the block is the number of all ranks
pub loop-i-init : goal.loop-i-init
loop-i-init c =
    subst (λ free. IsUnranking c.args.size c.args.count c.args.rank (replicate 8 0) 0 free c.args.ranks c.args.rank) (sym c.all_below-free.ensures) (
    IsUnranking-start c.args.size c.args.count c.args.rank c.args.ranks c.requires.small c.requires.few c.requires.room c.requires.ranks c.requires.below)

-- the block by which the rest of the rank is divided is not 0
pub nonzero_div-rest : goal.nonzero_div-rest
nonzero_div-rest c = subst (λ w. 0 < c.loop-i.block / w) (sym c.from-block.ensures)
    (IsUnranking-block c.args.size c.args.count c.args.rank c.loop-i.cells c.loop-i.i c.loop-i.free c.loop-i.block c.loop-i.rest c.loop-i.invariant
    c.loop-i-test.true)

-- the block for the remainder of the rank is not 0
pub nonzero_rem-rest : goal.nonzero_rem-rest
nonzero_rem-rest c = subst (λ w. 0 < c.loop-i.block / w) (sym c.from-block.ensures)
    (IsUnranking-block c.args.size c.args.count c.args.rank c.loop-i.cells c.loop-i.i c.loop-i.free c.loop-i.block c.loop-i.rest c.loop-i.invariant
    c.loop-i-test.true)

-- the place of the cell to select is below the number of free cells
pub select-cell-requires : goal.select-cell-requires
select-cell-requires c = subst (λ w. c.loop-i.rest / (c.loop-i.block / w) < count_ones c.loop-i.free) (sym c.from-block.ensures)
    (IsUnranking-free c.args.size c.args.count c.args.rank c.loop-i.cells c.loop-i.i c.loop-i.free c.loop-i.block c.loop-i.rest c.loop-i.invariant
    c.loop-i-test.true)

-- the selected cell is put down and taken, and the remainder is the rank of those behind it
pub loop-i-preserved : goal.loop-i-preserved
loop-i-preserved c =
    subst (λ w. IsUnranking c.args.size c.args.count c.args.rank (set c.loop-i.cells c.loop-i.i c.select-cell.result)
    (c.loop-i.i + 1) c.without-free.result (c.loop-i.block / w) (c.loop-i.rest % (c.loop-i.block / w))) (sym c.from-block.ensures) (
    IsUnranking-more c.args.size c.args.count c.args.rank c.loop-i.cells c.loop-i.i c.loop-i.free c.loop-i.block c.loop-i.rest c.loop-i.invariant
    c.loop-i-test.true
    c.select-cell.result c.without-free.result c.select-cell.ensures.within c.select-cell.ensures.here
    (c.select-cell.ensures.place ∙ ap (λ w. c.loop-i.rest / (c.loop-i.block / w)) c.from-block.ensures)
    c.without-free.type_inv c.without-free.ensures.here c.without-free.ensures.others)

-- the cells that were put down are the list of the given rank
pub returns-clause-cells : goal.returns-clause-cells
returns-clause-cells c = (IsUnranking-all c.args.size c.args.count c.args.rank c.loop-i.cells c.loop-i.i c.loop-i.free c.loop-i.block c.loop-i.rest
    c.loop-i.invariant c.loop-i-test.false).0

-- behind the cells of the rank the array has zeros
pub returns-clause-zeros : goal.returns-clause-zeros
returns-clause-zeros c = (IsUnranking-all c.args.size c.args.count c.args.rank c.loop-i.cells c.loop-i.i c.loop-i.free c.loop-i.block c.loop-i.rest
    c.loop-i.invariant c.loop-i-test.false).1
