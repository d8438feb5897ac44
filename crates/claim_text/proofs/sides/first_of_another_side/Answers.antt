use Rattle.std.proofs.Common.{◌≡◌, ◌≢◌, ◌==◌, ◌∙◌, ◌+◌, ◌<◌, ℕ, ap, arith, below_more, not, sym, true}
use Rattle.std.proofs.lemmas.Bool.{eqb-true, not-false}
use Rattle.std.proofs.lemmas.Grind.{common_steps}
use Rattle.puz_board.specs.Boards.{side_of}
use Rattle.claim_text.specs.Claims.{IsClaim, ShownClaim}
use Rattle.claim_text.specs.Shown.{claim_shown}
use Rattle.claim_text.specs.Texts.{claims_among, line_at, lines_of}
use Rattle.claim_text.specs.declared.claims.Claim.{Claim}
use Rattle.claim_text.proofs.ClaimLemmas.{one_claim}
use Rattle.claim_text.proofs.ReadingLemmas.{next_line}
use Rattle.claim_text.proofs.RemarkLemmas.{among-other, among-remark, no_claim}
use Rattle.claim_text.proofs.SideLemmas.{next_claim}
use Rattle.claim_text.proofs.sides.first_of_another_side.Goals as goal
use Rattle.claim_text.proofs.sides.first_of_another_side.Goals.{then-not-is_remark+else-ne, else-not-is_remark}

-- numbers that a test tells apart
differ : (a b : ℕ) → true ≡ not (a == b) → a ≢ b
differ a b e same = grind (arith, common_steps)

-- a claim on a board of another side, where all before have the side, is the first such
pub returns-then-ne-clause-some : goal.returns-then-ne-clause-some
returns-then-ne-clause-some c =
    let line = c.in-Some.line.now in
    let behind = lines_of c.in-Some.behind.now in
    let next = next_line (lines_of c.args.text.now) c.loop-line.number line behind (c.loop-line.invariant.left ∙ c.in-Some.ensures.some) in
    let among = ap claims_among c.in-Some.ensures.some ∙ among-other line behind (sym c.is_remark.ensures ∙ c.if-not-is_remark.true) in
    let claims = next_claim line (claims_among behind) c.args.claims.now c.loop-line.index (rw among at c.loop-line.invariant.claims) in
    let claim = c.index-claims-index.result in
    record {
      claim = claim_shown claim;
      is = rw (next.1, c.index-claims-index.is) (claims.here claim);
      another = differ _ _ (rw (c.side.ensures.side, ← c.index-claims-index.is) at c.if-ne.ensures);
      before = c.loop-line.invariant.before;
    }

-- the boards of the claims so far have the side with the next line too
pub loop-line-preserved : goal.loop-line-preserved
loop-line-preserved c =
    let line = c.in-Some.line.now in
    let behind = lines_of c.in-Some.behind.now in
    let claims = c.args.claims.now in
    let far = c.loop-line.invariant in
    let next = next_line (lines_of c.args.text.now) c.loop-line.number line behind (far.left ∙ c.in-Some.ensures.some) in
    let within = next.0 in
    let before : ((claim : ShownClaim) → IsClaim line claim → side_of claim.board ≡ c.args.side)
    → (i : ℕ) (claim : ShownClaim) → i < c.loop-line.number + 1 → IsClaim (line_at c.args.text.now i) claim → side_of claim.board ≡ c.args.side =
    λ here i claim low. below_more (λ i. (claim : ShownClaim) → IsClaim (line_at c.args.text.now i) claim → side_of claim.board ≡ c.args.side)
    c.loop-line.number (λ i low claim. far.before i claim low) (rw next.1 here) i low claim in
    elim c.if-not-is_remark.branch [
      | then-not-is_remark+else-ne w ↦
          let among = ap claims_among c.in-Some.ensures.some ∙ among-other line behind (sym c.is_remark.ensures ∙ w.if-not-is_remark.true) in
          let more = next_claim line (claims_among behind) claims c.loop-line.index (rw among at far.claims) in
          let claim = w.index-claims-index.result in
          let same : side_of claim.board ≡ c.args.side =
          ap (λ (x : Claim). side_of x.board) w.index-claims-index.is ∙ sym w.side.ensures.side
          ∙ eqb-true w.side.result c.args.side (not-false (w.side.result == c.args.side) (sym w.ne.ensures ∙ w.if-ne.false)) in
          rw w.index-is (record {
            few = omega (arith, within);
            left = next.2;
            claims = more.others;
            before = before (λ other is. ap (λ (x : ShownClaim). side_of x.board) (one_claim line other (claim_shown claim) is (rw w.index-claims-index.is (more.here claim))) ∙ same);
            have = λ all. far.have (more.have c.args.side claim (rw (← w.index-claims-index.is) same) all);
          })
      | else-not-is_remark w ↦
          let is = sym c.is_remark.ensures ∙ w.if-not-is_remark.false in
          rw w.index-is (record {
            few = omega (arith, within);
            left = next.2;
            claims = rw (ap claims_among c.in-Some.ensures.some ∙ among-remark line behind is) at far.claims;
            before = before (λ claim says. absurd (no_claim line is claim says));
            have = far.have;
          })
    ]
