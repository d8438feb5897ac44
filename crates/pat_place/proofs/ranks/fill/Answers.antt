use Rattle.std.proofs.Common.{length, refl}
use Rattle.pat_place.proofs.NextLemmas.{IsFilling-start, IsFilling-some, IsFilling-more, IsFilling-all}
use Rattle.pat_place.proofs.ranks.fill.Goals as goal

-- before a place is filled, all free cells are left, as many as the places at least
pub loop-cell-init : goal.loop-cell-init
loop-cell-init c = IsFilling-start (length c.args.cells.now) c.args.free c.args.cells.now refl c.ranges.free.fits c.requires

-- while a place isn't filled, the mask of the cells left isn't empty
pub first_of-requires : goal.first_of-requires
first_of-requires c = IsFilling-some (length c.args.cells.now) c.args.free c.loop-cell.cell-items c.loop-cell.cell-index c.loop-cell.rest
    c.loop-cell.invariant c.loop-cell-test.true

-- the least cell left is filled in, and taken from those that are left
pub loop-cell-preserved : goal.loop-cell-preserved
loop-cell-preserved c = IsFilling-more (length c.args.cells.now) c.args.free c.loop-cell.cell-items c.loop-cell.cell-index c.loop-cell.rest
    c.loop-cell.invariant c.loop-cell-test.true
    c.first_of.result c.without-rest.result c.first_of.ensures.within c.first_of.ensures.here c.first_of.ensures.lowest c.without-rest.type_inv
    c.without-rest.ensures.here c.without-rest.ensures.others

-- the filled list is the first of all lists of as many free cells
pub returns : goal.returns
returns c = IsFilling-all (length c.args.cells.now) c.args.free c.loop-cell.cell-items c.loop-cell.cell-index c.loop-cell.rest c.loop-cell.invariant
    c.loop-cell-test.false
