use Rattle.std.proofs.Common.{◌+◌, ◌≤◌, arith, length}
use Rattle.tab_file.proofs.GreatestLemmas.{greatest_more}
use Rattle.tab_file.proofs.counts.greatest_by_lanes.Goals as goal

-- with one vector of bytes taken in, the lanes have the greatest counts up to its end
pub lanes-preserved : goal.lanes-preserved
lanes-preserved g c =
    let room : c.lanes.at + g.row.N ≤ length c.args.bytes.now = let l = c.lanes-test.true in omega arith in
    (greatest_more c.args.bytes.now c.lanes.at g.row.N c.lanes.lanes room c.lanes.invariant.0, room)
