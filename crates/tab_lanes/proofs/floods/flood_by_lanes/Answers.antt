use Rattle.std.proofs.Common.{◌+◌, ◌≤◌, arith, length}
use Rattle.tab_lanes.specs.Floods.{IsReached}
use Rattle.tab_lanes.proofs.FloodLemmas.{grown_more}
use Rattle.tab_lanes.proofs.floods.flood_by_lanes.Goals as goal

-- with one vector of masks flooded, the column is flooded as far as its end
pub lanes-preserved : goal.lanes-preserved
lanes-preserved g c =
    let room : c.lanes.at + g.row.N ≤ length c.lanes.masks = let l = c.lanes-test.true in omega arith in
    let so_far = c.lanes.invariant in
    let more = grown_more c.args.from c.lanes.at g.row.N c.args.masks.now c.args.free.now c.lanes.masks
    (IsReached c.args.side) room so_far.1 so_far.0 c.flooded-flooded.result c.flooded-flooded.ensures in
    (more, let low = so_far.1 in omega arith, let e = more.len in let f = so_far.0.len in omega arith)
