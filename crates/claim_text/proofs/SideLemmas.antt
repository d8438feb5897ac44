-- Claims on boards of a side, line after line.
use Rattle.std.proofs.Common.{◌≡◌, ℕ, zero, suc, ◌+◌, ◌<◌, List, [], ◌∷◌, add-one, arith, drop, get_or, length, map, subst, sym}
use Rattle.std.specs.List.{AllByRecursion, AllZip}
use Rattle.puz_board.specs.Boards.{side_of}
use Rattle.claim_text.specs.Claims.{IsClaim, ShownClaim}
use Rattle.claim_text.specs.Shown.{claim_shown}
use Rattle.claim_text.specs.declared.claims.Claim.{Claim}

-- the boards of these claims have this side
abbrev pub HaveSide : ℕ → List ShownClaim → Type 0
HaveSide side claims = AllByRecursion (λ claim. side_of claim.board ≡ side) claims

-- where no line is left, no claim is
pub none_left : (side : ℕ) (claims : List Claim) → AllZip IsClaim [] (map claim_shown claims) → HaveSide side (map claim_shown claims)
none_left side [] all = tt
none_left side (claim ∷ claims) all = absurd all

-- the claim that a line is, with the others of lines behind it
pub record IsNext (line : List ℕ) (lines : List (List ℕ)) (claims : List Claim) (index behind : ℕ) : Type 0 where
  pub there : index < length claims
  pub here : (d : Claim) → IsClaim line (claim_shown (get_or claims index d))
  pub others : AllZip IsClaim lines (map claim_shown (drop behind claims))
  pub have : (side : ℕ) (d : Claim) → side_of (get_or claims index d).board ≡ side → HaveSide side (map claim_shown (drop behind claims))
      → HaveSide side (map claim_shown (drop index claims))

next_by : (line : List ℕ) (lines : List (List ℕ)) (claims : List Claim) (index : ℕ) → AllZip IsClaim (line ∷ lines) (map claim_shown (drop index claims))
    → IsNext line lines claims index (suc index)
next_by line lines [] zero all = absurd all
next_by line lines [] (suc index) all = absurd all
next_by line lines (claim ∷ claims) zero all =
    record { there = omega arith; here = λ d. all.0; others = all.1; have = λ side d same rest. (same, rest) }
next_by line lines (claim ∷ claims) (suc index) all =
    let next = next_by line lines claims index all in
    let low = next.there in
    record { there = omega (arith, low); here = next.here; others = next.others; have = next.have }

-- the next line is the next claim
pub next_claim : (line : List ℕ) (lines : List (List ℕ)) (claims : List Claim) (index : ℕ)
    → AllZip IsClaim (line ∷ lines) (map claim_shown (drop index claims)) → IsNext line lines claims index (index + 1)
next_claim line lines claims index all = subst (IsNext line lines claims index) (sym (add-one index)) (next_by line lines claims index all)
