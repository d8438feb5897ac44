use Rattle.std.proofs.Common.{arith}
use Rattle.claim_text.proofs.BoundLemmas.{no_bound, not_small}
use Rattle.claim_text.proofs.ClaimLemmas.{IfNone-always}
use Rattle.claim_text.proofs.bounds.read_asks.Goals as goal

-- where the number is greater than 255, the text says no bound and no part of one
pub returns-in_err-bound-clause-none : goal.returns-in_err-bound-clause-none
returns-in_err-bound-clause-none c =
    let large = not_small c.try_from.result c.in_ok-read_numeral.field-0 c.try_from.ensures c.in_err-bound.ensures.value in
    IfNone-always c.from_residual-in_err-bound.result
    (no_bound c.args.text.now c.in_ok-number.number.now _ c.in_ok-read_numeral.field-0 c.in_ok-number.ensures.some c.in_ok-read_numeral.ensures.some
    (omega arith) large)
