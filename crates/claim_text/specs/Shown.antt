-- What a contract sees of a claim.
use Rattle.claim_text.specs.Claims.{ShownAsks, ShownClaim, shortest, moves, bound, part}
use Rattle.claim_text.specs.declared.claims.Asks.{Asks}
use Rattle.claim_text.specs.declared.claims.Asks.TheVariants as asks
use Rattle.claim_text.specs.declared.claims.Claim.{Claim}

-- what is asked or said
abbrev pub asks_shown : Asks → ShownAsks
asks_shown asks.Shortest = shortest
asks_shown (asks.Moves text) = moves text.now
asks_shown (asks.Bound n) = bound n
asks_shown (asks.Part n p) = part n p

-- the claim
abbrev pub claim_shown : Claim → ShownClaim
claim_shown claim = record { board = claim.board; asks = asks_shown claim.asks }
