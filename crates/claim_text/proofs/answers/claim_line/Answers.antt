use Rattle.std.proofs.Common.{◌≡◌, ◌∷◌, ◌++◌, None, Option, Some, ap, lit<, ◌∙◌}
use Rattle.std.proofs.lemmas.Str.Pattern.{strip_prefix_char}
use Rattle.std.specs.Prelude.{MatchOption}
use Rattle.claim_text.specs.Lines.{asks_words, claim_words}
use Rattle.claim_text.specs.Shown.{asks_shown, claim_shown}
use Rattle.claim_text.proofs.AnswerLemmas.{spaced_front}
use Rattle.claim_text.proofs.answers.claim_line.Goals as goal

where_none : {A P : Type 0} (r : Option A) (Q : A → Type 0) → r ≡ None → MatchOption r P Q → P
where_none None Q e p = p
where_none (Some x) Q e p = absurd cc

-- a claim in words begins with a space, so there is one to leave out
pub unreachable-requires : goal.unreachable-requires
unreachable-requires c =
    let claim = c.args.claim.now in
    let words = claim_words (claim_shown claim) in
    let asks = asks_words (asks_shown claim.asks) in
    let front = spaced_front claim.board asks c.side-side.ensures.board in
    let line = c.as_str.ensures.value ∙ c.with_claim-spaced.ensures.bytes ∙ ap (λ start. start ++ words) c.new.ensures ∙ front.1 in
    where_none c.strip_prefix.result (λ x. c.as_str.result.now ≡ 32 ∷ x.now) c.in_default.is
    (strip_prefix_char 32 c.as_str.result.now c.strip_prefix.result c.strip_prefix.ensures.cases (lit< tt)) front.0 line
