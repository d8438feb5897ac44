use Rattle.std.proofs.Common.{◌≡◌, ℕ, ◌<◌, ◌≤◌, drop, length, map}
use Rattle.std.specs.List.{AllZip}
use Rattle.puz_board.specs.Boards.{side_of}
use Rattle.claim_text.specs.Claims.{IsClaim, ShownClaim}
use Rattle.claim_text.specs.Shown.{claim_shown}
use Rattle.claim_text.specs.Texts.{claim_lines, line_at, lines_of}
use Rattle.claim_text.proofs.SideLemmas.{HaveSide}
use Rattle.claim_text.proofs.sides.first_of_another_side.Given as goal

-- the boards of the claims so far have the side, and the other lines are left, with their claims
abbrev pub invariant-loop-line : goal.invariant-loop-line
invariant-loop-line l = record {
  few : l.number ≤ length (lines_of l.text);
  left : drop l.number (lines_of l.text) ≡ lines_of l.rest;
  claims : AllZip IsClaim (claim_lines l.rest) (map claim_shown (drop l.index l.claims));
  before : (i : ℕ) (claim : ShownClaim) → i < l.number → IsClaim (line_at l.text i) claim → side_of claim.board ≡ l.side;
  have : HaveSide l.side (map claim_shown (drop l.index l.claims)) → HaveSide l.side (map claim_shown l.claims);
}

-- the length of the text whose lines aren't looked at
abbrev pub decreases-loop-line : goal.decreases-loop-line
decreases-loop-line l = length l.rest
