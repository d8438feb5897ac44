use Rattle.std.proofs.Common.{◌≡◌, ◌+◌, [], drop, take, map, sym, ◌∙◌, ap, subst, arith, vec_len}
use Rattle.std.proofs.lemmas.List.{map-append}
use Rattle.std.specs.List.{AllZip}
use Rattle.claim_text.specs.Claims.{IsClaim}
use Rattle.claim_text.specs.Shown.{claim_shown}
use Rattle.claim_text.specs.Texts.{claim_lines, claims_among, lines_of}
use Rattle.claim_text.proofs.ReadingLemmas.{AllZip-more, next_line}
use Rattle.claim_text.proofs.RemarkLemmas.{among-other}
use Rattle.claim_text.proofs.texts.list_claims.Goals as goal

-- each line that is no remark was found to be a claim, so this place isn't reached
pub unreachable-requires : goal.unreachable-requires
unreachable-requires c =
    let n = vec_len c.loop-line.claims in
    let next = next_line (claim_lines c.args.text.now) n c.in-Some.line.now _
    (c.loop-line.invariant.left ∙ ap claims_among c.in-Some.ensures.some ∙ among-other c.in-Some.line.now (lines_of c.in-Some.behind.now) (sym c.is_remark.ensures ∙ c.if-is_remark.false)) in
    let says = c.requires.claims n [] next.0 in
    c.in_default-read_claim.ensures.none says.0 (subst (λ line. IsClaim line says.0) next.1 says.1)

-- the claim of the next line is listed behind the others, and the lines behind it are left
pub loop-line-preserved : goal.loop-line-preserved
loop-line-preserved c =
    let lines = claim_lines c.args.text.now in
    let n = vec_len c.loop-line.claims in
    let next = next_line lines n c.in-Some.line.now _
    (c.loop-line.invariant.left ∙ ap claims_among c.in-Some.ensures.some ∙ among-other c.in-Some.line.now (lines_of c.in-Some.behind.now) (sym c.is_remark.ensures ∙ c.if-is_remark.false)) in
    let within = next.0 in
    let len : vec_len c.push_reserved.new.self ≡ n + 1 = c.push_reserved.ensures.len in
    record {
      room = omega arith;
      few = omega (arith, within, len);
      left = ap (λ k. drop k lines) len ∙ next.2;
      listed =
          subst (λ k. AllZip IsClaim (take k lines) (map claim_shown c.push_reserved.new.self.items)) (sym len)
          (subst (λ claims. AllZip IsClaim (take (n + 1) lines) claims)
          (sym (ap (map claim_shown) c.push_reserved.ensures.items ∙ map-append claim_shown c.loop-line.claims.items _))
          (AllZip-more lines (map claim_shown c.loop-line.claims.items) n c.in-Some.line.now
          (claim_shown c.in-Some-read_claim.claim) next.0 next.1 c.loop-line.invariant.listed
          c.in-Some-read_claim.ensures.some));
    }
