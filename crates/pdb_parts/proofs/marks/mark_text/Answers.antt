use Rattle.std.proofs.Common.{◌≡◌, ◌+◌, ◌∷◌, ◌++◌, ◌∙◌, [], List, ap, append-nil, append_assoc, arith, refl, subst, sym, ℕ}
use mir.Val.{bool_byte}
use Rattle.std.specs.List.{All}
use Rattle.pdb_parts.specs.Beside.{first_in}
use Rattle.pdb_parts.specs.Joining.{RefutesNot, whole_lines}
use Rattle.pdb_parts.specs.Stored.{AreMarksOf, shown, skipped_shown}
use Rattle.pdb_parts.proofs.FirstLemmas.{first_more}
use Rattle.pdb_parts.proofs.MarkLemmas.{counted_line, marks_more, none_more, one_at_most}
use Rattle.pdb_parts.proofs.marks.mark_text.Goals as goal

-- what the next whole line tells is marked and counted, and the lines behind it are left
pub loop-line-preserved : goal.loop-line-preserved
loop-line-preserved c =
    let line = c.in-Some.line.now in
    let asked = shown c.args.asked.now in
    let so_far = c.loop-line.invariant.so_far in
    let is = c.in_ok-answer.ensures.answer in
    record {
      holds_size = c.mark_part.ensures.holds_size ∙ c.loop-line.invariant.holds_size;
      spent_size = c.mark_part.ensures.spent_size ∙ c.loop-line.invariant.spent_size;
      so_far = (
        so_far.0 ++ line ∷ [],
        so_far.1 ∙ ap (λ more. so_far.0 ++ more) c.in-Some.ensures.some ∙ sym (append_assoc so_far.0 (line ∷ []) _),
        λ before are.
            subst (λ (lines : List (List ℕ)). AreMarksOf c.mark_part.new.holds c.mark_part.new.spent lines asked) (append_assoc before so_far.0 (line ∷ []))
            (marks_more c.loop-line.holds c.loop-line.spent c.mark_part.new.holds c.mark_part.new.spent (before ++ so_far.0) line asked c.in_ok-answer.answer (so_far.2 before are) is
            c.mark_part.ensures.holds_size c.mark_part.ensures.spent_size c.mark_part.ensures.holds c.mark_part.ensures.spent),
        counted_line c.loop-line.counts _ so_far.0 line asked c.in_ok-answer.answer so_far.3 is refl
            (ap (λ n. c.loop-line.counts.skipped + n) (c.from.ensures ∙ ap bool_byte c.is_skip-is_skip.ensures)),
        none_more asked so_far.0 line so_far.4 is.none,
        ap skipped_shown c.first_with-first.ensures
            ∙ first_more asked so_far.0 c.loop-line.first record { number = c.loop-line.counts.all + 1; line = c.in-Some.line } c.is_skip-is_skip.result so_far.5
            (ap (λ n. n + 1) so_far.3.all) (is.skipped ∙ sym c.is_skip-is_skip.ensures),
      );
      few = omega (arith, c.loop-line.invariant.few, c.in-Some.ensures.shorter);
      fewer = omega (arith, c.loop-line.invariant.fewer, c.from.ensures, one_at_most c.is_skip-is_skip.result);
    }

-- at the end of the text the lines so far are all of its whole lines
whole : (lines done rest : List (List ℕ)) → lines ≡ done ++ rest → rest ≡ [] → lines ≡ done
whole lines done rest is none = is ∙ ap (λ (more : List (List ℕ)). done ++ more) none ∙ append-nil done

-- so what they tell is marked
pub returns-clause-marks : goal.returns-clause-marks
returns-clause-marks c = λ done are.
    let so_far = c.loop-line.invariant.so_far in
    let asked = shown c.args.asked.now in
    subst (λ (lines : List (List ℕ)). AreMarksOf c.loop-line.holds c.loop-line.spent (done ++ lines) asked)
    (sym (whole (whole_lines c.args.text.now) so_far.0 _ so_far.1 c.in_default.ensures.none)) (so_far.2 done are)

-- and they show no moves
pub returns-clause-none : goal.returns-clause-none
returns-clause-none c =
    let so_far = c.loop-line.invariant.so_far in
    subst (All (RefutesNot (shown c.args.asked.now)))
    (sym (whole (whole_lines c.args.text.now) so_far.0 _ so_far.1 c.in_default.ensures.none)) so_far.4

-- and their first one that is skipped is found
pub returns-clause-skipped : goal.returns-clause-skipped
returns-clause-skipped c =
    let so_far = c.loop-line.invariant.so_far in
    let asked = shown c.args.asked.now in
    so_far.5 ∙ ap (first_in asked 0) (sym (whole (whole_lines c.args.text.now) so_far.0 _ so_far.1 c.in_default.ensures.none))
