use Rattle.std.proofs.Common.{Some, ap, arith}
use Rattle.pdb_keep.proofs.ThresholdLemmas.{within_first, within_long, within_next, within_spent}
use Rattle.pdb_keep.proofs.shortest.deepen.Goals as goal

-- the searches begin with the blank's parity as bound and the whole budget
pub loop-count-init : goal.loop-count-init
loop-count-init g c = (
  within_first c.args.guide.now c.args.start.now.board c.args.budget c.blank_parity-count.result c.blank_parity-count.ensures.parity,
  λ many. absurd (omega (arith, many)),
)

-- a search that fails adds one threshold
pub loop-count-preserved : goal.loop-count-preserved
loop-count-preserved g c =
    let is = rw c.in-Refuted.is at c.refute.ensures.answer in
    let before = c.loop-count.invariant.0 in (
      within_next c.args.guide.now c.args.start.now.board c.args.budget c.loop-count.left c.loop-count.count before
          c.in-Refuted.expanded is.1 is.2,
      within_long c.args.guide.now c.args.start.now.board c.args.budget c.loop-count.left c.loop-count.count before
          c.requires.guide c.in-Refuted.expanded is.1,
    )

-- where a search has more boards than what is left, the budget is spent
pub returns-in-Spent-clause-given_up : goal.returns-in-Spent-clause-given_up
returns-in-Spent-clause-given_up g c =
    let before = c.loop-count.invariant.0 in
    let is = rw c.in-Spent.is at c.refute.ensures.answer in
    let spent = within_spent c.args.guide.now c.args.start.now.board c.args.budget c.loop-count.left c.loop-count.count before
    is.0 is.1 is.2 in
    (before.thresholds, ap Some before.reached, rw c.requires.guide at spent)
