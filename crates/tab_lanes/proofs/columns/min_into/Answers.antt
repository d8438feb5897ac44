use Rattle.std.proofs.Common.{arith}
use Rattle.tab_lanes.proofs.LesserLemmas.{all_lesser}
use Rattle.tab_lanes.proofs.columns.min_into.Goals as goal

-- in vectors and then byte by byte, each place has the lesser of its two bytes
pub returns : goal.returns
returns c =
    let first = c.min_by_lanes-rest.ensures in
    let second = c.min_by_lanes.ensures in
    all_lesser c.args.least.now c.args.others.now c.min_by_lanes-rest.new.least c.min_by_lanes.new.least c.min_by_lanes-rest.result
    c.min_by_lanes.result c.requires first.lesser second.lesser first.most
    (let e = first.lesser.len in let f = second.few in omega arith)
