use Rattle.std.proofs.Common.{◌≡◌, ◌≤◌, drop, length, map, take, vec_capacity, vec_len}
use Rattle.std.specs.List.{AllZip}
use Rattle.claim_text.specs.Claims.{IsClaim}
use Rattle.claim_text.specs.Shown.{claim_shown}
use Rattle.claim_text.specs.Texts.{claim_lines}
use Rattle.claim_text.proofs.texts.list_claims.Given as goal

-- the claims of the lines so far are listed, with room for the rest, and the other lines are left
abbrev pub invariant-loop-line : goal.invariant-loop-line
invariant-loop-line l = record {
  room : length (claim_lines l.text) ≤ vec_capacity l.claims;
  few : vec_len l.claims ≤ length (claim_lines l.text);
  left : drop (vec_len l.claims) (claim_lines l.text) ≡ claim_lines l.rest;
  listed : AllZip IsClaim (take (vec_len l.claims) (claim_lines l.text)) (map claim_shown l.claims.items);
}

-- the length of the text whose claims aren't listed
abbrev pub decreases-loop-line : goal.decreases-loop-line
decreases-loop-line l = length l.rest
