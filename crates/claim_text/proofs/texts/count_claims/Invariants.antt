use Rattle.std.proofs.Common.{◌≡◌, ◌+◌, ◌⊎◌, ℕ, ◌<◌, ◌≤◌, ◌^◌, drop, length, true}
use Rattle.claim_text.specs.Texts.{SaysClaim, claim_lines, is_remark, line_at, lines_of}
use Rattle.claim_text.proofs.texts.count_claims.Given as goal

-- the lines so far are claims and remarks, 1,048,576 at most, the claims among them are counted, and the other lines are left
abbrev pub invariant-loop-line : goal.invariant-loop-line
invariant-loop-line l = record {
  few : l.number ≤ length (lines_of l.text);
  room : l.number ≤ 2 ^ 20;
  left : drop l.number (lines_of l.text) ≡ lines_of l.rest;
  each : (i : ℕ) → i < l.number → SaysClaim (line_at l.text i) ⊎ (is_remark (line_at l.text i) ≡ true);
  low : l.count ≤ l.number;
  counted : l.count + length (claim_lines l.rest) ≡ length (claim_lines l.text);
}

-- the length of the text whose lines aren't counted
abbrev pub decreases-loop-line : goal.decreases-loop-line
decreases-loop-line l = length l.rest
