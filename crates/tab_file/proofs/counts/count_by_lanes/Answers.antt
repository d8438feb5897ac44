use Rattle.std.proofs.Common.{◌+◌, ◌<◌, ◌≤◌, ◌^◌, arith, length, rules}
use Rattle.tab_file.proofs.CountLemmas.{counted_more, counted_few}
use Rattle.tab_file.proofs.counts.count_by_lanes.Goals as goal

-- the count of equal bytes, with those of one vector more, fits in 64 bits
pub overflow_add-count : goal.overflow_add-count
overflow_add-count g c =
    let room : c.lanes.at + g.row.N ≤ length c.args.bytes.now = let l = c.lanes-test.true in omega arith in
    let few = counted_few c.args.byte g.row.N c.args.bytes.now c.lanes.at c.requires.few room c.lanes.count c.from-count.result c.lanes.invariant.0
    c.from-count.ensures in
    let long : length c.args.bytes.now < 2 ^ 63 = search rules in
    omega arith

-- with the equal bytes of one vector added, the count is right up to its end
pub lanes-preserved : goal.lanes-preserved
lanes-preserved g c =
    let room : c.lanes.at + g.row.N ≤ length c.args.bytes.now = let l = c.lanes-test.true in omega arith in (
      counted_more c.args.byte g.row.N c.args.bytes.now c.lanes.at c.requires.few room c.lanes.count c.from-count.result c.lanes.invariant.0
          c.from-count.ensures,
      room,
    )
