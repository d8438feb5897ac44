use Rattle.std.proofs.Common.{◌≡◌, ◌+◌, ◌-◌, ◌*◌, ◌≤◌, ap, arith}
use Rattle.puz_board.specs.Parity.{blank_parity}
use Rattle.puz_search.proofs.ThresholdLemmas.{rising_ends, rising_first, rising_last, rising_next}
use Rattle.puz_search.proofs.thresholds.refute_by_thresholds.Goals as goal

-- before the first threshold the whole budget is left
pub loop-bound-init : goal.loop-bound-init
loop-bound-init g c =
    let claim = c.args.claim.now in
    rising_first c.args.guide.now c.args.start.now.board claim.part claim.bound c.args.budget _ (ap (λ parity. parity + 1) c.blank_parity-bound.ensures.parity)

-- where the search below a threshold fails, the next threshold is two above
pub loop-bound-preserved : goal.loop-bound-preserved
loop-bound-preserved g c =
    let claim = c.args.claim.now in
    let is = c.loop-bound.invariant in
    let low = c.loop-bound-test.true in
    let reached : c.loop-bound.bound ≡ blank_parity c.args.start.now.board + 2 * is.thresholds + 1 = is.reached in
    let last : c.saturating_sub-last.result ≡ claim.bound - 4 = c.saturating_sub-last.ensures in
    rising_next c.args.guide.now c.args.start.now.board claim.part claim.bound c.args.budget c.loop-bound.left c.loop-bound.bound is
    c.in-Refuted.boards (omega arith) (rw c.below-threshold.ensures at c.in-Refuted.ensures.answer)

-- where it ends otherwise, that is the answer
pub returns-in_default : goal.returns-in_default
returns-in_default g c =
    let claim = c.args.claim.now in
    let low = c.loop-bound-test.true in
    let last : c.saturating_sub-last.result ≡ claim.bound - 4 = c.saturating_sub-last.ensures in
    rising_ends c.args.guide.now c.args.start.now.board claim.part claim.bound c.args.budget c.loop-bound.left c.loop-bound.bound c.loop-bound.invariant
    (omega arith) c.refute.result c.in_default.not-Refuted (rw c.below-threshold.ensures at c.refute.ensures.answer)

-- what workers answer below the bound, behind the thresholds, is the answer
pub returns : goal.returns
returns g c =
    let claim = c.args.claim.now in
    rising_last c.args.guide.now c.args.start.now.board claim.part claim.bound c.args.budget c.loop-bound.left c.loop-bound.bound c.loop-bound.invariant
    c.refute-2.result c.refute-2.ensures.answer
