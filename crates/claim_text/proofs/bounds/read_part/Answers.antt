use Rattle.std.proofs.Common.{arith, sym, ◌∙◌, subst}
use Rattle.move_strings.specs.BoundParts.{IsPart}
use Rattle.claim_text.proofs.BoundLemmas.{no_part, part_cut}
use Rattle.claim_text.proofs.ClaimLemmas.{IfNone-always}
use Rattle.claim_text.proofs.DecimalLemmas.{one_decimal}
use Rattle.claim_text.proofs.bounds.read_part.Goals as goal

-- where no numeral is before the slash, the words say no part
pub returns-in_err-read_numeral-clause-none : goal.returns-in_err-read_numeral-clause-none
returns-in_err-read_numeral-clause-none c =
    IfNone-always c.from_residual-in_err-read_numeral.result
    (λ p is e.
    let cut = part_cut c.args.words.now c.in_ok-index.index.now c.in_ok-index.count.now p c.in_ok-index.ensures.some e in
    let few = is.few in let below = is.below in
    c.in_err-read_numeral.ensures.none p.index (omega arith) cut.0)

-- where no numeral is behind the slash, the words say no part
pub returns-in_err-read_numeral-2-clause-none : goal.returns-in_err-read_numeral-2-clause-none
returns-in_err-read_numeral-2-clause-none c =
    IfNone-always c.from_residual-in_err-read_numeral-2.result
    (λ p is e.
    let cut = part_cut c.args.words.now c.in_ok-index.index.now c.in_ok-index.count.now p c.in_ok-index.ensures.some e in
    c.in_err-read_numeral-2.ensures.none p.count is.few cut.1)

-- where the two numbers make no part, the words say none
pub returns-clause-none : goal.returns-clause-none
returns-clause-none c =
    no_part c.new.result _ _ c.new.ensures
    (λ none p is e.
    let cut = part_cut c.args.words.now c.in_ok-index.index.now c.in_ok-index.count.now p c.in_ok-index.ensures.some e in
    let few = is.few in let below = is.below in
    let index = one_decimal c.in_ok-read_numeral.field-0 p.index (omega arith) (omega arith) (sym c.in_ok-read_numeral.ensures.some ∙ cut.0) in
    let count = one_decimal c.in_ok-read_numeral-2.field-0 p.count (omega arith) (omega arith) (sym c.in_ok-read_numeral-2.ensures.some ∙ cut.1) in
    none (subst IsPart (λ i. record { index = sym index i; count = sym count i }) is))
