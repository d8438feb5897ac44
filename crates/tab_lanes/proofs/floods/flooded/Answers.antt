use Rattle.std.proofs.Common.{inl, inr, ◌∙◌, arith}
use Rattle.tab_lanes.proofs.FlagLemmas.{none_differs, all_same}
use Rattle.tab_lanes.proofs.FloodLemmas.{all_entered}
use Rattle.tab_lanes.proofs.FloodingLemmas.{flooding_begins, regions_may_grow, flooding_goes_on, flooding_ends, flooding_falls}
use Rattle.tab_lanes.proofs.floods.flooded.Goals as goal

-- before the first step, what is found is the masks themselves
pub grow-init : goal.grow-init
grow-init g c = flooding_begins c.args.side c.args.masks c.args.free c.requires.masks

-- the regions so far may grow on, and only cells outside the outer columns are entered sideways
pub grown-more-requires : goal.grown-more-requires
grown-more-requires g c =
    let may = regions_may_grow c.args.side c.args.masks c.args.free c.requires.masks c.grow.regions c.grow.invariant in (
      let few = c.requires.few in omega arith,
      (
        c.requires.few,
        (
          may,
          all_entered g.row.N c.args.side c.first_column.result c.last_column.result c.grow.regions c.args.free c.fits-free.0 c.fits-free.1 may
              c.first_column.type_inv c.last_column.type_inv c.first_column.ensures
              c.last_column.ensures,
        ),
      ),
    )

-- where a step changes no lane, the regions are all that is reached
pub returns-then-not-more-regions : goal.returns-then-not-more-regions
returns-then-not-more-regions g c =
    let step = c.grown-more.ensures in
    let regions_long = c.grow.invariant.len ∙ c.fits-masks.0 in
    let same = none_differs g.row.N c.grown-more.result c.grow.regions c.requires.few (step.len ∙ regions_long) regions_long c.if-not-more-regions.true in
    flooding_ends c.args.side c.args.masks c.args.free c.requires.masks c.grow.regions c.grow.invariant c.grown-more.result step
    (λ i l. same i (let e = c.fits-masks.0 in omega arith))

-- a step that changes some lane leaves less room in the free cells
pub grow-smaller : goal.grow-smaller
grow-smaller g c =
    let step = c.grown-more.ensures in
    let regions_long = c.grow.invariant.len ∙ c.fits-masks.0 in
    elim (flooding_falls c.args.side c.args.masks c.args.free c.requires.masks c.grow.regions c.grow.invariant c.grown-more.result step) [
      | inl less ↦ less
      | inr same ↦ absurd (c.if-not-more-regions.false (
          all_same g.row.N c.grown-more.result c.grow.regions c.requires.few (step.len ∙ regions_long) regions_long
          (λ i l. same i (let e = c.fits-masks.0 in omega arith))))
    ]

-- a step that changes some lane keeps to cells that are free and reached
pub grow-preserved : goal.grow-preserved
grow-preserved g c = flooding_goes_on c.args.side c.args.masks c.args.free c.requires.masks c.grow.regions c.grow.invariant c.grown-more.result
    c.grown-more.ensures
