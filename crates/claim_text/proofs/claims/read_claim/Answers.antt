use Rattle.claim_text.proofs.ClaimLemmas.{IfNone-weaker, no_colon_claim, no_moves_claim, no_shortest_claim}
use Rattle.claim_text.proofs.claims.read_claim.Goals as goal

-- where what is around the first semicolon makes no claim, the line is none
pub returns-in-Some-clause-none : goal.returns-in-Some-clause-none
returns-in-Some-clause-none c =
    IfNone-weaker c.moves_claim.result (no_moves_claim c.args.line.now c.in-Some.board.now c.in-Some.moves.now c.in-Some.ensures.some)
    c.moves_claim.ensures.none

-- where what is around the first colon makes no claim, the line is none
pub returns-in-Some-split_at-clause-none : goal.returns-in-Some-split_at-clause-none
returns-in-Some-split_at-clause-none c =
    IfNone-weaker c.colon_claim.result
    (no_colon_claim c.args.line.now c.in-Some-split_at.board.now c.in-Some-split_at.behind.now c.in_default.ensures.none c.in-Some-split_at.ensures.some)
    c.colon_claim.ensures.none

-- a line without semicolon and colon that spells no board is no claim
pub returns-in-None-clause-none : goal.returns-in-None-clause-none
returns-in-None-clause-none c =
    IfNone-weaker c.shortest_claim.result (no_shortest_claim c.args.line.now c.in_default.ensures.none c.in-None.ensures.none) c.shortest_claim.ensures.none
