use Rattle.std.proofs.Common.{sym, ◌∙◌, subst, arith}
use Rattle.std.proofs.lemmas.Simd.{shifts_fit_splat}
use Rattle.tab_lanes.specs.Floods.{AreGrown, IsAStepAway}
use Rattle.tab_lanes.proofs.FloodLemmas.{all_stepped, grown_lanes}
use Rattle.tab_lanes.proofs.floods.grown.Goals as goal

-- a shift up by a row of the board is less than the bits of a mask
pub overflow_shl-vertical : goal.overflow_shl-vertical
overflow_shl-vertical g c = shifts_fit_splat 32 c.args.masks g.row.N c.from-row.result (let e = c.from-row.ensures in let v = c.get.ensures in omega arith)

-- a shift down by a row of the board is less than the bits of a mask
pub overflow_shr-vertical : goal.overflow_shr-vertical
overflow_shr-vertical g c = shifts_fit_splat 32 c.args.masks g.row.N c.from-row.result (let e = c.from-row.ensures in let v = c.get.ensures in omega arith)

-- a shift up by one cell is less than the bits of a mask
pub overflow_shl-horizontal : goal.overflow_shl-horizontal
overflow_shl-horizontal g c = shifts_fit_splat 32 c.args.masks g.row.N 1 (omega arith)

-- a shift down by one cell is less than the bits of a mask
pub overflow_shr-horizontal : goal.overflow_shr-horizontal
overflow_shr-horizontal g c = shifts_fit_splat 32 c.args.masks g.row.N 1 (omega arith)

-- shifts by a row and by one cell, cut to what may be entered, are one step of each mask
pub returns : goal.returns
returns g c =
    let row = c.from-row.ensures ∙ c.get.ensures.value in
    subst (λ r. AreGrown (IsAStepAway c.args.side) c.args.masks c.args.free
    (grown_lanes g.row.N r c.args.masks c.args.free c.args.right c.args.left)) (sym row) (
    all_stepped g.row.N c.args.side c.args.masks c.args.free c.args.right c.args.left c.get.ensures.low c.get.ensures.high c.fits-free.0
    c.fits-right.0 c.fits-left.0 c.requires.masks c.requires.entered)
