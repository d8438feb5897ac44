use Rattle.std.proofs.Common.{sym, ◌≡◌, ◌⊎◌, ◌∙◌, ap, subst, inl, inr, arith, below_more, length, true, false}
use Rattle.claim_text.specs.Claims.{IsNoClaim}
use Rattle.claim_text.specs.Shown.{claim_shown}
use Rattle.claim_text.specs.Texts.{SaysClaim, claims_among, is_remark, line_at, lines_of}
use Rattle.claim_text.proofs.ClaimLemmas.{IfNone-there}
use Rattle.claim_text.proofs.ReadingLemmas.{next_line, no_more_lines, says_claim}
use Rattle.claim_text.proofs.RemarkLemmas.{all_say, among_more}
use Rattle.claim_text.proofs.texts.count_claims.Goals as goal
use Rattle.claim_text.proofs.texts.count_claims.Goals.{then-number-eq-MOST_LINES-via-then-number-eq-MOST_LINES, then-number-eq-MOST_LINES-via-else-number-eq-MOST_LINES+then-not-is_some, then-remark, else-remark}

-- the line behind those so far is the first that is neither, or for which there is no room
pub returns-then-number-eq-MOST_LINES-clause-err : goal.returns-then-number-eq-MOST_LINES-clause-err
returns-then-number-eq-MOST_LINES-clause-err c =
    let next = next_line (lines_of c.args.text.now) c.loop-line.number c.in-Some.line.now _ (c.loop-line.invariant.left ∙ c.in-Some.ensures.some) in
    record {
      before = c.loop-line.invariant.each;
      room = c.loop-line.invariant.room;
      none = inl (record {
        there = next.0;
        bad = elim c.then-number-eq-MOST_LINES.branch [
          | then-number-eq-MOST_LINES-via-then-number-eq-MOST_LINES w ↦ inr w.if-number-eq-MOST_LINES.true
          | then-number-eq-MOST_LINES-via-else-number-eq-MOST_LINES+then-not-is_some w ↦ elim w.if-remark.branch [
            | then-remark v ↦ absurd (let no : false ≡ true = sym w.if-not-is_some.true ∙ v.value-is ∙ v.if-remark.true in cc)
            | else-remark v ↦ inl (
              subst IsNoClaim (sym next.1) (IfNone-there v.read_claim.result (sym v.is_some.ensures ∙ sym v.value-is ∙ w.if-not-is_some.true) v.read_claim.ensures.none),
              ap is_remark next.1 ∙ sym c.is_remark-remark.ensures ∙ v.if-remark.false,
            )
          ]
        ];
      });
    }

-- the next line is a claim or a remark as well, and the lines behind it are left
pub loop-line-preserved : goal.loop-line-preserved
loop-line-preserved c =
    let next = next_line (lines_of c.args.text.now) c.loop-line.number c.in-Some.line.now _ (c.loop-line.invariant.left ∙ c.in-Some.ensures.some) in
    let within = next.0 in
    let differs = c.if-number-eq-MOST_LINES.false in
    let line = c.in-Some.line.now in
    let more = among_more line (lines_of c.in-Some.behind.now) c.is_remark-remark.result c.is_remark-remark.ensures in
    let low = c.loop-line.invariant.low in
    let left = ap (λ lines. length (claims_among lines)) c.in-Some.ensures.some in
    let says : SaysClaim line ⊎ (is_remark line ≡ true) = elim c.if-remark.branch [
      | then-remark w ↦ inr (sym c.is_remark-remark.ensures ∙ w.if-remark.true)
      | else-remark w ↦
          let some = sym w.is_some.ensures ∙ sym w.value-is ∙ c.if-not-is_some.false in
          inl (says_claim claim_shown line w.read_claim.result some w.read_claim.ensures.some)
    ] in
    record {
      few = omega (arith, within);
      room = omega (arith, differs, c.loop-line.invariant.room);
      left = next.2;
      each = below_more (λ i. SaysClaim (line_at c.args.text.now i) ⊎ (is_remark (line_at c.args.text.now i) ≡ true)) c.loop-line.number
          c.loop-line.invariant.each (subst (λ text. SaysClaim text ⊎ (is_remark text ≡ true)) (sym next.1) says);
      low = omega (arith, low, more.0, c.from.ensures);
      counted = omega (arith, more.1, c.from.ensures, left, c.loop-line.invariant.counted);
    }

-- once no line is left, each line of the text is a claim or a remark
pub returns-else-count-eq0-clause-claims : goal.returns-else-count-eq0-clause-claims
returns-else-count-eq0-clause-claims c =
    let all = no_more_lines (lines_of c.args.text.now) c.loop-line.number c.loop-line.invariant.few
    (c.loop-line.invariant.left ∙ ap lines_of c.in_default.ensures.none) in
    all_say (lines_of c.args.text.now) (λ i within. c.loop-line.invariant.each i (omega (arith, all, within)))
