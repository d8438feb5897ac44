use Rattle.std.proofs.Common.{◌≡◌, ◌-◌, ◌∷◌, ◌++◌, ◌∙◌, ℕ, List, ap, append_assoc, codes, drop, length, sym, take}
use Rattle.std.proofs.lemmas.List.{append_cancel_right}
use Rattle.std.proofs.lemmas.Bool.Decides.{Decides-eqb}
use Rattle.std.proofs.lemmas.Slice.Eq.{strip_suffix_is}
use Rattle.std.specs.Prelude.{None, Some}
use Rattle.puz_goal.specs.declared.goals.Goal.{Goal}
use Rattle.claim_text.specs.Claims.{HasNo, IsCutAt}
use Rattle.claim_text.specs.Lines.{refused, told_line}
use Rattle.claim_text.specs.Parts.{part_claim}
use Rattle.claim_text.proofs.ClaimLemmas.{IfNone-always}
use Rattle.claim_text.proofs.ToldLemmas.{front_no, no_of, rest_of, what_behind, what_of}
use Rattle.claim_text.proofs.told_parts.refused_part.Goals as goal

-- a line without an `o` refuses nothing
pub returns-in_err-before-clause-none : goal.returns-in_err-before-clause-none
returns-in_err-before-clause-none c =
    IfNone-always c.from_residual.result
    (λ what i none below is. no_of c.args.goal c.args.line.now what (part_claim c.args.count c.args.bound c.args.board.now i) c.in_err-before.ensures.none is)

-- nor does one without a space before it
pub returns-in_err-what-clause-none : goal.returns-in_err-what-clause-none
returns-in_err-what-clause-none c =
    IfNone-always c.from_residual-in_err-what.result
    (λ what i none below is.
    let claim = part_claim c.args.count c.args.bound c.args.board.now i in
    let before = c.in_ok-before.before.now in
    let front = what_of c.args.goal c.args.line.now before c.in_ok-before._behind.now what claim none c.in_ok-before.ensures.some is in
    strip_suffix_is Decides-eqb before c.as_slice.result.now None c.in_err-what.ensures.cases what
    (front ∙ ap (λ (t : List ℕ). what ++ t) (sym c.as_slice.ensures)))

-- ---- where a space stands before the `o`

module _ (g : Goal) (line before behind found : List ℕ) (count n : ℕ) (b : List ℕ) (cut : IsCutAt 111 line before behind) (front : before ≡ found ++ codes " ") where
  -- what the line refuses for is what was found
  same_what : (what : List ℕ) (i : ℕ) → HasNo 111 what → line ≡ told_line g (refused what (part_claim count n b i)) → what ≡ found
  same_what what i none is =
      append_cancel_right what found (codes " ") (sym (what_of g line before behind what (part_claim count n b i) none cut is) ∙ front)

  -- and behind that stands the end of such a line
  end_behind : (what : List ℕ) (i : ℕ) → HasNo 111 what → line ≡ told_line g (refused what (part_claim count n b i))
      → take (length line - length found) (drop (length found) line) ≡ told_line g (refused (codes "") (part_claim count n b i))
  end_behind what i none is =
      let same = same_what what i none is in
      let claim = part_claim count n b i in
      rest_of line found (told_line g (refused (codes "") claim))
      (is ∙ what_behind g what claim ∙ ap (λ (w : List ℕ). w ++ told_line g (refused (codes "") claim)) same)

  -- what was found, and the end of such a line behind it, are one
  whole_line : (i : ℕ) → take (length line - length found) (drop (length found) line) ≡ told_line g (refused (codes "") (part_claim count n b i))
      → line ≡ told_line g (refused found (part_claim count n b i))
  whole_line i is =
      let whole : line ≡ found ++ (codes " " ++ 111 ∷ behind) =
      cut.whole ∙ ap (λ (t : List ℕ). t ++ 111 ∷ behind) front ∙ append_assoc found (codes " ") (111 ∷ behind) in
      whole ∙ ap (λ (t : List ℕ). found ++ t) (sym (rest_of line found (codes " " ++ 111 ∷ behind) whole) ∙ is)
      ∙ sym (what_behind g found (part_claim count n b i))

-- what ends otherwise refuses no claim of a part
pub returns-in_err-index-clause-none : goal.returns-in_err-index-clause-none
returns-in_err-index-clause-none c =
    IfNone-always c.from_residual-in_err-index.result
    (λ what i none below is.
    c.in_err-index.ensures.none i below
    (end_behind c.args.goal c.args.line.now c.in_ok-before.before.now c.in_ok-before._behind.now c.in_ok-what.what.now c.args.count c.args.bound c.args.board.now
    c.in_ok-before.ensures.some
    (strip_suffix_is Decides-eqb c.in_ok-before.before.now c.as_slice.result.now (Some c.in_ok-what.what) c.in_ok-what.ensures.cases
    ∙ ap (λ (t : List ℕ). c.in_ok-what.what.now ++ t) c.as_slice.ensures)
    what i none is))

-- what was found and the claim are the line
pub returns-clause-some : goal.returns-clause-some
returns-clause-some c =
    let front = strip_suffix_is Decides-eqb c.in_ok-before.before.now c.as_slice.result.now (Some c.in_ok-what.what) c.in_ok-what.ensures.cases
    ∙ ap (λ (t : List ℕ). c.in_ok-what.what.now ++ t) c.as_slice.ensures in
    let some = c.in_ok-index.ensures.some in (
      some.0,
      front_no c.in_ok-what.what.now c.in_ok-before.before.now front c.in_ok-before.ensures.some.first,
      whole_line c.args.goal c.args.line.now c.in_ok-before.before.now c.in_ok-before._behind.now c.in_ok-what.what.now c.args.count c.args.bound c.args.board.now
          c.in_ok-before.ensures.some front c.in_ok-index.index some.1,
    )

-- and they alone
pub returns-clause-one : goal.returns-clause-one
returns-clause-one c = λ what i none below is.
    let front = strip_suffix_is Decides-eqb c.in_ok-before.before.now c.as_slice.result.now (Some c.in_ok-what.what) c.in_ok-what.ensures.cases
    ∙ ap (λ (t : List ℕ). c.in_ok-what.what.now ++ t) c.as_slice.ensures in (
      same_what c.args.goal c.args.line.now c.in_ok-before.before.now c.in_ok-before._behind.now c.in_ok-what.what.now c.args.count c.args.bound c.args.board.now
          c.in_ok-before.ensures.some front what i none is,
      c.in_ok-index.ensures.one i below
          (end_behind c.args.goal c.args.line.now c.in_ok-before.before.now c.in_ok-before._behind.now c.in_ok-what.what.now c.args.count c.args.bound
          c.args.board.now c.in_ok-before.ensures.some front what i none is),
    )
