use Rattle.std.proofs.Common.{arith}
use Rattle.pdb_checker.proofs.ClaimLemmas.{answered_more}
use Rattle.pdb_checker.proofs.claims.answer_each.Goals as goal

-- one claim more is answered
pub loop-number-preserved : goal.loop-number-preserved
loop-number-preserved c = record {
  each = answered_more c.args.claims.now c.loop-number.answers c.loop-number.number _ c.answer_claim.result c.loop-number-test.true
      (let size = c.requires in let keeps = c.loop-number.auto.answers in let low = c.loop-number-test.true in omega arith)
      c.answer_claim.ensures c.loop-number.invariant.each;
}

-- then all are
pub returns : goal.returns
returns c = λ _ number claim answer low.
    c.loop-number.invariant.each number claim answer (let past = c.loop-number-test.false in let end = c.loop-number.auto.number-end in omega arith)
