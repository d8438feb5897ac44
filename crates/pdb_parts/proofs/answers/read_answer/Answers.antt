use Rattle.std.proofs.Common.{◌≡◌, ◌∙◌, List, ap, codes, false, sym, true, ℕ}
use Rattle.std.proofs.lemmas.Bool.Decides.{Decides-eqb}
use Rattle.std.proofs.lemmas.Slice.Eq.{slice_eq-Decides}
use Rattle.claim_text.specs.Lines.{refused, told_line}
use Rattle.pdb_parts.specs.Joining.{ShownBoundInParts, claim_of}
use Rattle.pdb_parts.specs.Stored.{shown}
use Rattle.pdb_parts.proofs.AnswerLemmas.{IsAloneFor, aside_answer, moves_refute, no_claim_answer, other_claim_answer, part_answer, spent_answer, unsolved_answer}
use Rattle.pdb_parts.proofs.answers.read_answer.Goals as goal

module _ (asked : ShownBoundInParts) (line what words : List ℕ) (i : ℕ) (same : what ≡ words) where
  -- what the line refuses the claim for
  is_for : line ≡ told_line asked.goal (refused what (claim_of asked i)) → line ≡ told_line asked.goal (refused words (claim_of asked i))
  is_for is = is ∙ ap (λ (w : List ℕ). told_line asked.goal (refused w (claim_of asked i))) same

  alone_for : IsAloneFor asked line what i → IsAloneFor asked line words i
  alone_for alone = λ other j none below is. let both = alone other j none below is in (both.0 ∙ same, both.1)

-- a line that says nothing is none of the others
pub returns-then-is_aside-clause-answer : goal.returns-then-is_aside-clause-answer
returns-then-is_aside-clause-answer c = aside_answer (shown c.args.asked.now) c.args.line.now (sym c.is_aside.ensures ∙ c.if-is_aside.true)

-- a line with the index of a part says that it holds
pub returns-in-Some-clause-answer : goal.returns-in-Some-clause-answer
returns-in-Some-clause-answer c =
    part_answer (shown c.args.asked.now) c.args.line.now c.in-Some.index c.in-Some.ensures.some.0 c.in-Some.ensures.some.1 c.in-Some.ensures.one

-- a line that refuses no claim of a part is skipped
pub returns-in_default-refused_part-clause-answer : goal.returns-in_default-refused_part-clause-answer
returns-in_default-refused_part-clause-answer c =
    no_claim_answer (shown c.args.asked.now) c.args.line.now c.in_default.ensures.none
    (sym c.is_aside.ensures ∙ c.if-is_aside.false) c.in_default-refused_part.ensures.none

-- one that refuses it for K1 says that a budget ended its search
pub returns-then-eq-clause-answer : goal.returns-then-eq-clause-answer
returns-then-eq-clause-answer c =
    let asked = shown c.args.asked.now in
    let line = c.args.line.now in
    let refused_for = c.in-Some-refused_part.refused in
    let some = c.in-Some-refused_part.ensures.some in
    let same = (slice_eq-Decides Decides-eqb refused_for.what.now c.as_slice.result.now c.eq.result c.eq.ensures).0 c.if-eq.true ∙ c.as_slice.ensures in
    spent_answer asked line c.in_default.ensures.none refused_for.index some.0
    (is_for asked line refused_for.what.now (codes "refused K1") refused_for.index same some.2)
    (alone_for asked line refused_for.what.now (codes "refused K1") refused_for.index same c.in-Some-refused_part.ensures.one)

-- one that refuses it for K2 says no more
pub returns-then-eq-2-clause-answer : goal.returns-then-eq-2-clause-answer
returns-then-eq-2-clause-answer c =
    let asked = shown c.args.asked.now in
    let line = c.args.line.now in
    let refused_for = c.in-Some-refused_part.refused in
    let some = c.in-Some-refused_part.ensures.some in
    let same = (slice_eq-Decides Decides-eqb refused_for.what.now c.as_slice-2.result.now c.eq-2.result c.eq-2.ensures).0 c.if-eq-2.true ∙ c.as_slice-2.ensures in
    unsolved_answer asked line c.in_default.ensures.none refused_for.index some.0
    (is_for asked line refused_for.what.now (codes "refused K2") refused_for.index same some.2)
    (alone_for asked line refused_for.what.now (codes "refused K2") refused_for.index same c.in-Some-refused_part.ensures.one)

-- moves that are fewer refute the bound
pub returns-in-Some-moves_in-clause-moves : goal.returns-in-Some-moves_in-clause-moves
returns-in-Some-moves_in-clause-moves c =
    let some = c.in-Some-refused_part.ensures.some in
    let moves = c.in-Some-moves_in.ensures.some in
    moves_refute (shown c.args.asked.now) c.args.line.now c.in-Some-refused_part.refused.what.now c.in-Some-moves_in.moves.now
    c.in-Some-refused_part.refused.index moves.1.0 some.0 some.2 moves.0 moves.1.1 moves.1.2

-- a line that refuses the claim for anything else is skipped
pub returns-in-None-clause-answer : goal.returns-in-None-clause-answer
returns-in-None-clause-answer c =
    let what = c.in-Some-refused_part.refused.what.now in
    other_claim_answer (shown c.args.asked.now) c.args.line.now c.in_default.ensures.none what c.in-Some-refused_part.refused.index
    (sym c.is_aside.ensures ∙ c.if-is_aside.false) c.in-Some-refused_part.ensures.one
    (λ same. let is = (slice_eq-Decides Decides-eqb what c.as_slice.result.now c.eq.result c.eq.ensures).1 (same ∙ sym c.as_slice.ensures) in
    let clash : true ≡ false = sym is ∙ c.if-eq.false in cc)
    (λ same. let is = (slice_eq-Decides Decides-eqb what c.as_slice-2.result.now c.eq-2.result c.eq-2.ensures).1 (same ∙ sym c.as_slice-2.ensures) in
    let clash : true ≡ false = sym is ∙ c.if-eq-2.false in cc)
    c.in-None.ensures.none
