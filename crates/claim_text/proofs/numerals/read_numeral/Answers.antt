use Rattle.std.proofs.Common.{◌≡◌, sym, ◌∙◌, ap, decimal, Some, None}
use Rattle.claim_text.proofs.ClaimLemmas.{IfNone-always}
use Rattle.claim_text.proofs.NumeralLemmas.{no_text, not_differ, read_decimal, same_text, some_same}
use Rattle.claim_text.proofs.numerals.read_numeral.Goals as goal

-- bytes that aren't UTF-8 are the decimal of no number
pub returns-in_err-text-clause-none : goal.returns-in_err-text-clause-none
returns-in_err-text-clause-none c =
    IfNone-always c.from_residual.result (no_text c.args.digits.now c.from_utf8.result _ c.from_utf8.ensures.cases c.in_err-text.ensures.value)

-- a text that isn't read as a number is the decimal of none up to 65,535
pub returns-in_err-number-clause-none : goal.returns-in_err-number-clause-none
returns-in_err-number-clause-none c =
    let same = same_text c.args.digits.now c.from_utf8.result _ c.in_ok-text.text c.from_utf8.ensures.cases c.in_ok-text.ensures.value in
    IfNone-always c.from_residual-in_err-number.result
    (λ n small e.
    let read = read_decimal c.in_ok-text.text.now c.parse.result n small (same ∙ e) c.parse.ensures.value.0 in
    let no : None ≡ Some n = c.in_err-number.ensures.value ∙ read in absurd cc)

-- a text that isn't the decimal of the number read from it is the decimal of none up to 65,535
pub returns-else-eq-clause-none : goal.returns-else-eq-clause-none
returns-else-eq-clause-none c n small e =
    let same = same_text c.args.digits.now c.from_utf8.result _ c.in_ok-text.text c.from_utf8.ensures.cases c.in_ok-text.ensures.value in
    let read = read_decimal c.in_ok-text.text.now c.parse.result n small (same ∙ e) c.parse.ensures.value.0 in
    let number = some_same c.in_ok-number.number n (c.in_ok-number.ensures.value ∙ read) in
    not_differ c.format.result.now c.in_ok-text.text.now (c.format.ensures.text ∙ ap decimal number ∙ sym (same ∙ e)) c.if-eq.ensures
