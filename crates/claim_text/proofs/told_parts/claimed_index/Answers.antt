use Rattle.std.proofs.Common.{◌≡◌, ◌∙◌, ℕ, List, ap, subst, sym, codes}
use Rattle.move_strings.specs.BoundParts.{IsPart, ShownPart}
use Rattle.claim_text.specs.Claims.{part}
use Rattle.claim_text.specs.Lines.{refused, told_line}
use Rattle.claim_text.specs.Parts.{part_at}
use Rattle.claim_text.proofs.ClaimLemmas.{IfNone-always}
use Rattle.claim_text.proofs.NumeralLemmas.{not_differ}
use Rattle.claim_text.proofs.ToldLemmas.{found_index, part_of}
use Rattle.claim_text.proofs.told_parts.claimed_index.Goals as goal

-- a text without a number behind the front is the end of no such line
pub returns-in_err-index-clause-none : goal.returns-in_err-index-clause-none
returns-in_err-index-clause-none c =
    IfNone-always c.from_residual.result
    (λ i below is. found_index c.args.goal (λ _. ⊥) c.args.count c.args.bound c.args.board.now c.args.text.now i below c.requires.few
    (rw (c.as_bytes.ensures.value, c.as_str.ensures.value, c.part_front-front.ensures) at c.in_err-index.ensures.none) is)

-- nor is one whose number makes no part with this count
pub returns-in_err-part-clause-none : goal.returns-in_err-part-clause-none
returns-in_err-part-clause-none c =
    IfNone-always c.from_residual-in_err-part.result
    (λ i below is.
    let same = found_index c.args.goal (λ k. k ≡ c.in_ok-index.index) c.args.count c.args.bound c.args.board.now c.args.text.now i below c.requires.few
    (rw (c.as_bytes.ensures.value, c.as_str.ensures.value, c.part_front-front.ensures) at c.in_ok-index.ensures.one) is in
    c.in_err-part.ensures (subst (λ k. IsPart (part_at c.args.count k)) same (part_of c.args.count i c.requires below)))

-- nor one that isn't that of the part with its number
pub returns-else-eq-clause-none : goal.returns-else-eq-clause-none
returns-else-eq-clause-none c = λ i below is.
    let same = found_index c.args.goal (λ k. k ≡ c.in_ok-index.index) c.args.count c.args.bound c.args.board.now c.args.text.now i below c.requires.few
    (rw (c.as_bytes.ensures.value, c.as_str.ensures.value, c.part_front-front.ensures) at c.in_ok-index.ensures.one) is in
    let words : ShownPart → List ℕ = λ p. told_line c.args.goal (refused (codes "") (record { board = c.args.board.now; asks = part c.args.bound p })) in
    let told = c.as_bytes-2.ensures.value ∙ c.as_str-2.ensures.value ∙ c.of_claim.ensures ∙ ap words c.in_ok-part.ensures.1
    ∙ ap (λ k. words (part_at c.args.count k)) (sym same) in
    not_differ c.as_bytes-2.result.now c.args.text.now (told ∙ sym is) c.if-eq.ensures

-- the index is the only one
pub returns-then-eq-clause-one : goal.returns-then-eq-clause-one
returns-then-eq-clause-one c = λ j below is.
    found_index c.args.goal (λ k. k ≡ c.in_ok-index.index) c.args.count c.args.bound c.args.board.now c.args.text.now j below c.requires.few
    (rw (c.as_bytes.ensures.value, c.as_str.ensures.value, c.part_front-front.ensures) at c.in_ok-index.ensures.one) is
