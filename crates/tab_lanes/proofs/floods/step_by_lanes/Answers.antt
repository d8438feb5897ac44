use Rattle.std.proofs.Common.{◌+◌, ◌≤◌, arith, length}
use Rattle.tab_lanes.specs.Floods.{IsAStepAway}
use Rattle.tab_lanes.proofs.FloodLemmas.{grown_more}
use Rattle.tab_lanes.proofs.floods.step_by_lanes.Goals as goal

-- with one vector of masks taken a step, the column is so as far as its end
pub lanes-preserved : goal.lanes-preserved
lanes-preserved g c =
    let room : c.lanes.at + g.row.N ≤ length c.lanes.masks = let l = c.lanes-test.true in omega arith in
    let so_far = c.lanes.invariant in
    let more = grown_more c.args.from c.lanes.at g.row.N c.args.masks.now c.args.free.now c.lanes.masks
    (IsAStepAway c.args.side) room so_far.1 so_far.0 c.stepped-grown.result c.stepped-grown.ensures in
    (more, let low = so_far.1 in omega arith, let e = more.len in let f = so_far.0.len in omega arith)
