use Rattle.std.proofs.Common.{◌+◌, ◌≤◌, arith, length}
use Rattle.tab_lanes.proofs.LesserLemmas.{taken_in}
use Rattle.tab_lanes.proofs.columns.min_by_lanes.Goals as goal

-- with one vector of lesser bytes written, the column is taken in as far as its end
pub lanes-preserved : goal.lanes-preserved
lanes-preserved g c =
    let so_far = c.lanes.invariant in
    let room : c.lanes.at + g.row.N ≤ length c.lanes.least = let l = c.lanes-test.true in omega arith in
    let more = taken_in g.row.N c.args.least.now c.args.others.now c.args.from c.lanes.at c.lanes.least c.requires.lengths room so_far.0 so_far.1 in
    (more, omega arith, let e = more.len in let f = so_far.0.len in omega arith)
