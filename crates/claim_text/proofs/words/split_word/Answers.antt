use Rattle.std.proofs.Common.{◌≡◌, ◌-◌, ◌∷◌, ℕ, List, length, drop, take, arith, ap, sym, ◌∙◌}
use Rattle.std.proofs.lemmas.List.{length-drop, take_all}
use Rattle.puz_board.specs.BoardTexts.{parts}
use Rattle.claim_text.proofs.ClaimLemmas.{IfNone-always}
use Rattle.claim_text.proofs.WordLemmas.{no_word, parts-cut, word_alone}
use Rattle.claim_text.proofs.words.split_word.Goals as goal

-- a front of a text up to its end is all of what is left
rest_of : (text : List ℕ) (start : ℕ) → take (length text - start) (drop start text) ≡ drop start text
rest_of text start = take_all (length text - start) (drop start text) (omega (arith, length-drop start text))

-- a text of separators alone has no words
pub returns-in_err-start-clause-none : goal.returns-in_err-start-clause-none
returns-in_err-start-clause-none c = IfNone-always c.from_residual.result (no_word c.args.text.now c.in_err-start.ensures.place)

-- where no separator is behind the start of the first word, it is the only one
pub returns-in-None-clause-some : goal.returns-in-None-clause-some
returns-in-None-clause-some c =
    word_alone c.args.text.now _ c.in_ok-start.start (rest_of c.args.text.now c.in_ok-start.start) c.in_ok-start.ensures.place c.in-None.ensures.place

-- the first word ends at the next separator, and the other words are behind it
pub returns-in-Some-clause-some : goal.returns-in-Some-clause-some
returns-in-Some-clause-some c =
    let rest = take (length c.args.text.now - c.in_ok-start.start) (drop c.in_ok-start.start c.args.text.now) in
    parts-cut c.args.text.now rest c.in_ok-start.start c.in-Some.end
    (rest_of c.args.text.now c.in_ok-start.start) c.in_ok-start.ensures.place c.in-Some.ensures.place ∙
    ap (λ behind. take c.in-Some.end rest ∷ parts behind) (sym (rest_of rest c.in-Some.end))
