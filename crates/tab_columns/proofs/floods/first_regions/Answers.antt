use Rattle.std.proofs.Common.{get_or, arith}
use Rattle.tab_columns.proofs.FloodLemmas.{first_region}
use Rattle.tab_columns.proofs.floods.first_regions.Goals as goal

-- a flood from the first cell that is left gives the first region, in each row
pub returns-clause-each : goal.returns-clause-each
returns-clause-each c row l =
    let all = c.loop-row-test.false in
    let long = c.loop-row.invariant.len in
    first_region c.args.side (get_or c.args.free.now row 0) (get_or c.args.rest.now row 0) (get_or c.loop-row.regions row 0) (get_or c.flood.new.masks row 0)
    (c.loop-row.invariant.each row (omega arith)) (c.flood.ensures.each row (omega arith))
