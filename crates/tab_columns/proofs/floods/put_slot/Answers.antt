use Rattle.std.proofs.Common.{◌+◌, ◌*◌, ◌<◌, length, get_or, length-set, ◌∙◌, arith}
use Rattle.tab_columns.proofs.FloodLemmas.{place_within, put-here, put-others}
use Rattle.tab_columns.proofs.floods.put_slot.Goals as goal

-- with the mask of one row put in at the slot, the rows up to it have theirs
pub loop-row-preserved : goal.loop-row-preserved
loop-row-preserved c =
    let place = place_within c.args.width c.args.slot c.loop-row.row c.requires.width c.requires.slot c.loop-row-test.true in
    let long = c.loop-row.invariant.len in
    let within : c.loop-row.row * c.args.width + c.args.slot < length c.loop-row.masks = omega arith in
    record {
      here = put-here c.loop-row.masks c.args.masks.now c.args.regions.now c.args.width c.args.slot c.loop-row.row c.requires.slot within
          c.loop-row.invariant.here c.loop-row.invariant.others;
      others = put-others c.loop-row.masks c.args.masks.now c.args.regions.now c.args.width c.args.slot c.loop-row.row c.requires.slot within
          c.loop-row.invariant.here c.loop-row.invariant.others;
      len = length-set c.loop-row.masks (c.loop-row.row * c.args.width + c.args.slot) (get_or c.args.regions.now c.loop-row.row 0) ∙ long;
    }
