use Rattle.std.proofs.Common.{Err, ap, inl, map}
use Rattle.claim_text.specs.Shown.{claim_shown}
use Rattle.claim_text.specs.Texts.{claim_lines}
use Rattle.claim_text.specs.declared.faults.ClaimsFault.TheVariants.{Q1}
use Rattle.claim_text.proofs.ReadingLemmas.{all_few, are_claims, claims_there, no_fault, one_fault, one_reading}
use Rattle.claim_text.proofs.texts.read_claims.Goals as goal

-- a text with a line that is no claim has no list of claims
pub returns-in-Err-clause-claims : goal.returns-in-Err-clause-claims
returns-in-Err-clause-claims c = λ claims are. absurd (no_fault c.args.text.now claims c.in-Err.line are c.in-Err.ensures.err)

-- the line for which a text is refused is the first that is no claim
pub returns-in-Err-clause-exact : goal.returns-in-Err-clause-exact
returns-in-Err-clause-exact c = λ line first. ap (λ n. Err (Q1 n)) (one_fault c.args.text.now c.in-Err.line line c.in-Err.ensures.err first)

-- the claims that are listed are those of the text's lines, some and not too many
pub returns-in-Ok-list_claims-clause-ok : goal.returns-in-Ok-list_claims-clause-ok
returns-in-Ok-list_claims-clause-ok c =
    are_claims c.args.text.now c.in-Ok.count (map claim_shown c.in-Ok-list_claims.claims.items) c.in-Ok.ensures.count c.in-Ok.ensures.some
    c.in-Ok.ensures.few c.in-Ok-list_claims.ensures

-- whatever claims the text has are the ones that are listed
pub returns-in-Ok-list_claims-clause-claims : goal.returns-in-Ok-list_claims-clause-claims
returns-in-Ok-list_claims-clause-claims c = λ claims are.
    inl (one_reading c.args.text.now (map claim_shown c.in-Ok-list_claims.claims.items) claims (returns-in-Ok-list_claims-clause-ok c) are)

-- a text whose claims are listed has no first line that is no claim
pub returns-in-Ok-list_claims-clause-exact : goal.returns-in-Ok-list_claims-clause-exact
returns-in-Ok-list_claims-clause-exact c = λ line first.
    absurd (no_fault c.args.text.now (map claim_shown c.in-Ok-list_claims.claims.items) line (returns-in-Ok-list_claims-clause-ok c) first)

-- each claim that is listed has at most 1,000 letters in its moves text
pub returns-in-Ok-list_claims-clause-few : goal.returns-in-Ok-list_claims-clause-few
returns-in-Ok-list_claims-clause-few c = all_few claim_shown (claim_lines c.args.text.now) c.in-Ok-list_claims.claims.items c.in-Ok-list_claims.ensures

-- where memory for the list is wanting, no line of the text is the first that is no claim
pub returns-in-Err-list_claims-clause-exact : goal.returns-in-Err-list_claims-clause-exact
returns-in-Err-list_claims-clause-exact c = λ line first.
    let there = claims_there (claim_lines c.args.text.now) c.in-Ok.ensures.claims in
    absurd (no_fault c.args.text.now there.0 line (are_claims c.args.text.now c.in-Ok.count there.0 c.in-Ok.ensures.count c.in-Ok.ensures.some
    c.in-Ok.ensures.few there.1) first)

-- where memory for the list is wanting, the text is one of claims
pub returns-in-Err-list_claims-clause-memory : goal.returns-in-Err-list_claims-clause-memory
returns-in-Err-list_claims-clause-memory c _ =
    let there = claims_there (claim_lines c.args.text.now) c.in-Ok.ensures.claims in
    (there.0, are_claims c.args.text.now c.in-Ok.count there.0 c.in-Ok.ensures.count c.in-Ok.ensures.some c.in-Ok.ensures.few there.1)
