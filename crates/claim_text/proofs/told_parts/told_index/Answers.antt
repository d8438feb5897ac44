use Rattle.std.proofs.Common.{ℕ, List, ap, arith, drop, length, sym, ◌∙◌, subst}
use Rattle.move_strings.specs.BoundParts.{IsPart, ShownPart}
use Rattle.claim_text.specs.Lines.{part_bounded, told_line}
use Rattle.claim_text.specs.Parts.{part_at}
use Rattle.claim_text.proofs.ClaimLemmas.{IfNone-always}
use Rattle.claim_text.proofs.DecimalLemmas.{one_decimal}
use Rattle.claim_text.proofs.NumeralLemmas.{not_differ}
use Rattle.claim_text.proofs.ToldLemmas.{index_of, no_index, part_of}
use Rattle.claim_text.proofs.told_parts.told_index.Goals as goal

-- a line without a slash behind its first word is the line of no part
pub returns-in_err-index-clause-none : goal.returns-in_err-index-clause-none
returns-in_err-index-clause-none c =
    IfNone-always c.from_residual-in_err-index.result
    (λ i below. no_index c.args.goal c.args.line.now c.in_ok-words.words.now (part_at c.args.count i) c.args.bound c.args.board.now
    (c.in_ok-words.ensures.cases.1 ∙ ap (λ front. drop (length front) c.args.line.now) c.as_slice.ensures) c.in_err-index.ensures.none)

-- a line without a numeral before the slash is the line of no part
pub returns-in_err-index-2-clause-none : goal.returns-in_err-index-2-clause-none
returns-in_err-index-2-clause-none c =
    IfNone-always c.from_residual-in_err-index-2.result
    (λ i below is.
    let few = c.requires.few in
    let index = index_of c.args.goal c.args.line.now c.in_ok-words.words.now c.in_ok-index.index.now _ (part_at c.args.count i) c.args.bound c.args.board.now
    (c.in_ok-words.ensures.cases.1 ∙ ap (λ front. drop (length front) c.args.line.now) c.as_slice.ensures) c.in_ok-index.ensures.some is in
    c.in_err-index-2.ensures.none i (omega arith) index)

-- a line whose index makes no part with this count is the line of no part
pub returns-in_err-part-clause-none : goal.returns-in_err-part-clause-none
returns-in_err-part-clause-none c =
    IfNone-always c.from_residual-in_err-part.result
    (λ i below is.
    let few = c.requires.few in
    let index = index_of c.args.goal c.args.line.now c.in_ok-words.words.now c.in_ok-index.index.now _ (part_at c.args.count i) c.args.bound c.args.board.now
    (c.in_ok-words.ensures.cases.1 ∙ ap (λ front. drop (length front) c.args.line.now) c.as_slice.ensures) c.in_ok-index.ensures.some is in
    let same = one_decimal c.in_ok-index-2.index i (omega arith) (omega arith) (sym c.in_ok-index-2.ensures.some ∙ index) in
    c.in_err-part.ensures (subst (λ k. IsPart (part_at c.args.count k)) (sym same) (part_of c.args.count i c.requires below)))

-- a line that isn't that of the part with its index is the line of no part
pub returns-else-eq-clause-none : goal.returns-else-eq-clause-none
returns-else-eq-clause-none c i below is =
    let few = c.requires.few in
    let index = index_of c.args.goal c.args.line.now c.in_ok-words.words.now c.in_ok-index.index.now _ (part_at c.args.count i) c.args.bound c.args.board.now
    (c.in_ok-words.ensures.cases.1 ∙ ap (λ front. drop (length front) c.args.line.now) c.as_slice.ensures) c.in_ok-index.ensures.some is in
    let same = one_decimal c.in_ok-index-2.index i (omega arith) (omega arith) (sym c.in_ok-index-2.ensures.some ∙ index) in
    let line : ShownPart → List ℕ = λ p. told_line c.args.goal (part_bounded p c.args.bound c.args.board.now) in
    let told = c.as_bytes.ensures.value ∙ c.as_str.ensures.value ∙ c.part_line.ensures ∙ ap line c.in_ok-part.ensures.1
    ∙ ap (λ k. line (part_at c.args.count k)) same in
    not_differ c.as_bytes.result.now c.args.line.now (told ∙ sym is) c.if-eq.ensures

-- the line is that of no other index than the one that is answered
pub returns-then-eq-clause-one : goal.returns-then-eq-clause-one
returns-then-eq-clause-one c j below is =
    let few = c.requires.few in
    let index = index_of c.args.goal c.args.line.now c.in_ok-words.words.now c.in_ok-index.index.now _ (part_at c.args.count j) c.args.bound c.args.board.now
    (c.in_ok-words.ensures.cases.1 ∙ ap (λ front. drop (length front) c.args.line.now) c.as_slice.ensures) c.in_ok-index.ensures.some is in
    sym (one_decimal c.in_ok-index-2.index j (omega arith) (omega arith) (sym c.in_ok-index-2.ensures.some ∙ index))
