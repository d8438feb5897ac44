use Rattle.std.proofs.Common.{◌/◌, ◌%◌, ◌∙◌}
use Rattle.move_strings.specs.Drafts.{label_of, move_of_rank, string_of}
use Rattle.move_strings.proofs.AutomatonLemmas.{ends_as, label_of-read, right_left_out, right_to, string_of-read}
use Rattle.move_strings.proofs.drafts.is_right_step.Goals as goal

-- a step to a state that there is passes exactly where it is right
pub returns-then-state-labels : goal.returns-then-state-labels
returns-then-state-labels c =
    let labels = c.args.labels.now in
    let forbidden = c.args.forbidden.now in
    let place = c.args.place in
    right_to labels forbidden place c.in-To.state c.args.step c.in-To.is c.if-state-labels.true
    (ends_as c.as_slice-label.result.now (label_of labels (place / 4)) c.move_at-mv.result (move_of_rank (place % 4)) c.as_slice.result.now
    (label_of labels c.in-To.state)
    (c.as_slice-label.ensures.value ∙ label_of-read labels (place / 4) c.index-labels-place.result c.requires c.index-labels-place.is)
    c.move_at-mv.ensures
    (c.as_slice.ensures.value ∙ label_of-read labels c.in-To.state c.index-labels-state.result c.if-state-labels.true c.index-labels-state.is)
    c.ends_so.result c.ends_so.ensures)

-- a step that is left out for a string that there is passes exactly where it is right
pub returns-then-number-forbidden : goal.returns-then-number-forbidden
returns-then-number-forbidden c =
    let labels = c.args.labels.now in
    let forbidden = c.args.forbidden.now in
    let place = c.args.place in
    let number = c.in-LeftOut.number in
    right_left_out labels forbidden place number c.args.step c.in-LeftOut.is c.if-number-forbidden.true
    (ends_as c.as_slice-label.result.now (label_of labels (place / 4)) c.move_at-mv.result
    (move_of_rank (place % 4)) c.as_slice-then-number-forbidden.result.now (string_of forbidden number)
    (c.as_slice-label.ensures.value ∙ label_of-read labels (place / 4) c.index-labels-place.result c.requires c.index-labels-place.is)
    c.move_at-mv.ensures
    (c.as_slice-then-number-forbidden.ensures.value ∙ string_of-read forbidden number c.index-forbidden-number.result c.if-number-forbidden.true)
    c.ends_so-then-number-forbidden.result c.ends_so-then-number-forbidden.ensures)
