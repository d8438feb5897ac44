use Rattle.std.proofs.Common.{◌-◌, ◌^◌, bit_and, length, sym, ◌∙◌, ap, subst, arith, lit<}
use Rattle.pat_place.proofs.SlotSteps.{AreListed, AreListed-more, IsRest-all, taken, width_le, count_within}
use Rattle.pat_place.proofs.slots.regions.Goals as goal

-- a region more is still one of at most 8, for which the list has room
pub push-requires : goal.push-requires
push-requires c =
    let t = taken c.args.placement.now c.pattern.ensures.is_pattern c.pattern.ensures.placement c.each.rest
    (length c.each.regions.items) c.each.invariant.left c.side-side.result c.free_cells-free.result
    (c.side-side.ensures.side ∙ ap (λ p. p.side) c.pattern.ensures.pattern) c.free_cells-free.ensures.free
    c.first_of.result c.first_of.ensures.here c.first_of.ensures.lowest c.region_of-region.result c.region_of-region.type_inv c.region_of-region.ensures in
    let below = t.below in
    let few = width_le c.args.placement.now c.pattern.ensures.is_pattern c.pattern.ensures.placement in
    (lit< tt, omega arith)

-- without the region that was found, the mask of what is left is smaller
pub each-smaller : goal.each-smaller
each-smaller c =
    let t = taken c.args.placement.now c.pattern.ensures.is_pattern c.pattern.ensures.placement c.each.rest
    (length c.each.regions.items) c.each.invariant.left c.side-side.result c.free_cells-free.result
    (c.side-side.ensures.side ∙ ap (λ p. p.side) c.pattern.ensures.pattern) c.free_cells-free.ensures.free
    c.first_of.result c.first_of.ensures.here c.first_of.ensures.lowest c.region_of-region.result c.region_of-region.type_inv c.region_of-region.ensures in
    t.smaller

-- the region of the least cell left is listed, and its cells are left no longer
pub each-preserved : goal.each-preserved
each-preserved c =
    let t = taken c.args.placement.now c.pattern.ensures.is_pattern c.pattern.ensures.placement c.each.rest
    (length c.each.regions.items) c.each.invariant.left c.side-side.result c.free_cells-free.result
    (c.side-side.ensures.side ∙ ap (λ p. p.side) c.pattern.ensures.pattern) c.free_cells-free.ensures.free
    c.first_of.result c.first_of.ensures.here c.first_of.ensures.lowest c.region_of-region.result c.region_of-region.type_inv c.region_of-region.ensures in
    subst (λ items. AreListed c.args.placement.now.pattern.side c.args.placement.now.cells items
    (bit_and c.each.rest (2 ^ 32 - 1 - c.region_of-region.result))) (sym c.push.ensures.items) (
    AreListed-more c.args.placement.now.pattern.side c.args.placement.now.cells c.each.regions.items c.each.rest c.region_of-region.result
    (bit_and c.each.rest (2 ^ 32 - 1 - c.region_of-region.result)) c.each.invariant t.slots t.next)

-- once no cell is left, the masks are the regions, one for each leader of the board
pub returns-clause-regions : goal.returns-clause-regions
returns-clause-regions c = record {
  each = c.each.invariant.each;
  all = IsRest-all c.args.placement.now.pattern.side c.args.placement.now.cells c.each.rest
      (length c.each.regions.items) c.each.invariant.left c.each-test.false;
}

-- the list has at most as many regions as the width says
pub returns-clause-few : goal.returns-clause-few
returns-clause-few c =
    let good = c.pattern.ensures.is_pattern in
    let placed = c.pattern.ensures.placement in
    count_within c.args.placement.now.pattern.side good.low good.high c.args.placement.now.cells (length c.each.regions.items) placed.inside placed.apart
    (IsRest-all c.args.placement.now.pattern.side c.args.placement.now.cells c.each.rest (length c.each.regions.items) c.each.invariant.left c.each-test.false)
