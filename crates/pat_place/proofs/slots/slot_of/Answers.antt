use Rattle.std.proofs.Common.{◌≡◌, suc, ◌-◌, ◌^◌, bit_and, ◌+◌, ◌∙◌, ap, subst, arith}
use Rattle.puz_board.proofs.BitLemmas.{goal_met, goal_missed}
use Rattle.pat_place.proofs.SlotSteps.{IsRest, taken, met, width_le}
use Rattle.pat_place.proofs.slots.slot_of.Goals as goal

-- the number of regions before the one with the cell is the cell's slot
pub returns-then-region-goal-ne0-clause-slot : goal.returns-then-region-goal-ne0-clause-slot
returns-then-region-goal-ne0-clause-slot c = (met c.args.placement.now c.pattern.ensures.is_pattern c.pattern.ensures.placement c.search.rest
    c.search.slot c.search.invariant.0 c.side-side.result c.free_cells-free.result
    (c.side-side.ensures.side ∙ ap (λ p. p.side) c.pattern.ensures.pattern) c.free_cells-free.ensures.free
    c.first_of.result c.first_of.ensures.here c.first_of.ensures.lowest c.args.cell
    (c.region_until-region.ensures.reached c.args.cell
    (goal_met c.region_until-region.result c.with-goal.result c.args.cell c.with-goal.ensures.others c.if-region-goal-ne0.true))).0

-- the slot that is answered is below the width
pub returns-then-region-goal-ne0-clause-below : goal.returns-then-region-goal-ne0-clause-below
returns-then-region-goal-ne0-clause-below c = (met c.args.placement.now c.pattern.ensures.is_pattern c.pattern.ensures.placement c.search.rest
    c.search.slot c.search.invariant.0 c.side-side.result c.free_cells-free.result
    (c.side-side.ensures.side ∙ ap (λ p. p.side) c.pattern.ensures.pattern) c.free_cells-free.ensures.free
    c.first_of.result c.first_of.ensures.here c.first_of.ensures.lowest c.args.cell
    (c.region_until-region.ensures.reached c.args.cell
    (goal_met c.region_until-region.result c.with-goal.result c.args.cell c.with-goal.ensures.others c.if-region-goal-ne0.true))).1

-- the number of a region without the cell is small enough to be counted on
pub overflow_add-slot : goal.overflow_add-slot
overflow_add-slot c =
    let t = taken c.args.placement.now c.pattern.ensures.is_pattern c.pattern.ensures.placement c.search.rest c.search.slot c.search.invariant.0
    c.side-side.result c.free_cells-free.result (c.side-side.ensures.side ∙ ap (λ p. p.side) c.pattern.ensures.pattern) c.free_cells-free.ensures.free
    c.first_of.result c.first_of.ensures.here c.first_of.ensures.lowest c.region_until-region.result c.region_until-region.type_inv
    (c.region_until-region.ensures.whole c.if-region-goal-ne0.false) in
    let below = t.below in
    let few = width_le c.args.placement.now c.pattern.ensures.is_pattern c.pattern.ensures.placement in
    omega arith

-- without a region that hasn't the cell, the mask of what is left is smaller
pub search-smaller : goal.search-smaller
search-smaller c =
    let t = taken c.args.placement.now c.pattern.ensures.is_pattern c.pattern.ensures.placement c.search.rest c.search.slot c.search.invariant.0
    c.side-side.result c.free_cells-free.result (c.side-side.ensures.side ∙ ap (λ p. p.side) c.pattern.ensures.pattern) c.free_cells-free.ensures.free
    c.first_of.result c.first_of.ensures.here c.first_of.ensures.lowest c.region_until-region.result c.region_until-region.type_inv
    (c.region_until-region.ensures.whole c.if-region-goal-ne0.false) in
    t.smaller

-- a region without the cell is taken, and the cell itself is left still
pub search-preserved : goal.search-preserved
search-preserved c =
    let t = taken c.args.placement.now c.pattern.ensures.is_pattern c.pattern.ensures.placement c.search.rest c.search.slot c.search.invariant.0
    c.side-side.result c.free_cells-free.result (c.side-side.ensures.side ∙ ap (λ p. p.side) c.pattern.ensures.pattern) c.free_cells-free.ensures.free
    c.first_of.result c.first_of.ensures.here c.first_of.ensures.lowest c.region_until-region.result c.region_until-region.type_inv
    (c.region_until-region.ensures.whole c.if-region-goal-ne0.false) in (
      subst (λ j. IsRest c.args.placement.now.pattern.side c.args.placement.now.cells
          (bit_and c.search.rest (2 ^ 32 - 1 - c.region_until-region.result)) j) (let e : suc c.search.slot ≡ c.search.slot + 1 = omega arith in e) t.next,
      t.left c.args.cell c.search.invariant.1 (goal_missed c.region_until-region.result c.with-goal.result c.args.cell c.with-goal.ensures.here
          c.if-region-goal-ne0.false),
    )
