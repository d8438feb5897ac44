use Rattle.std.proofs.Common.{◌≡◌, ◌++◌, ◌∷◌, ◌∙◌, List, arith, decimal, drop, length, lit<, subst, sym, ℕ}
use Rattle.std.proofs.lemmas.Bool.Decides.{Decides-eqb}
use Rattle.std.proofs.lemmas.List.Prefix.{front_rest}
use Rattle.std.proofs.lemmas.Slice.Eq.{strip_prefix_is}
use Rattle.std.specs.Prelude.{None}
use Rattle.claim_text.specs.Claims.{HasNo, IsCutAt}
use Rattle.claim_text.proofs.ClaimLemmas.{IfNone-always}
use Rattle.claim_text.proofs.CutLemmas.{cut_nowhere, one_cut}
use Rattle.claim_text.proofs.DecimalLemmas.{decimal-no, one_decimal}
use Rattle.claim_text.proofs.told_parts.index_behind.Goals as goal

-- a text without that front has no such number
pub returns-in_err-words-clause-none : goal.returns-in_err-words-clause-none
returns-in_err-words-clause-none c =
    IfNone-always c.from_residual.result
    (λ j rest few is. strip_prefix_is Decides-eqb c.args.text.now c.args.front.now None c.in_err-words.ensures.cases (decimal j ++ 47 ∷ rest) is)

-- nor has one without a slash behind it
pub returns-in_err-index-clause-none : goal.returns-in_err-index-clause-none
returns-in_err-index-clause-none c =
    IfNone-always c.from_residual-in_err-index.result
    (λ j rest few is.
    let words = c.in_ok-words.ensures.cases.1 ∙ front_rest c.args.text.now c.args.front.now (decimal j ++ 47 ∷ rest) is in
    cut_nowhere 47 (decimal j) rest (subst (HasNo 47) words c.in_err-index.ensures.none))

-- what stands before the first slash is the number's numeral
before_slash : (text front words index behind rest : List ℕ) (j : ℕ) → words ≡ drop (length front) text → IsCutAt 47 words index behind
    → text ≡ front ++ (decimal j ++ 47 ∷ rest) → index ≡ decimal j
before_slash text front words index behind rest j words_are cut is =
    let whole : IsCutAt 47 words (decimal j) rest =
    record { whole = words_are ∙ front_rest text front (decimal j ++ 47 ∷ rest) is; first = decimal-no 47 j (lit< tt) } in
    (one_cut 47 words index behind (decimal j) rest cut whole).0

-- nor one without a numeral before the slash
pub returns-in_err-number-clause-none : goal.returns-in_err-number-clause-none
returns-in_err-number-clause-none c =
    IfNone-always c.from_residual-in_err-number.result
    (λ j rest few is. c.in_err-number.ensures.none j few (before_slash c.args.text.now c.args.front.now c.in_ok-words.words.now c.in_ok-index.index.now
    c.in_ok-index._rest.now rest j c.in_ok-words.ensures.cases.1 c.in_ok-index.ensures.some is))

-- the number is the only one
pub returns-clause-one : goal.returns-clause-one
returns-clause-one c = λ j rest few is.
    one_decimal j c.in_ok-number.number few (omega arith)
    (sym (before_slash c.args.text.now c.args.front.now c.in_ok-words.words.now c.in_ok-index.index.now
    c.in_ok-index._rest.now rest j c.in_ok-words.ensures.cases.1 c.in_ok-index.ensures.some is) ∙ c.in_ok-number.ensures.some)
