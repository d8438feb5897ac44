use Rattle.std.proofs.Common.{◌≡◌, ◌+◌, ◌*◌, ◌≤◌, ◌++◌, take}
use Rattle.arrayvec.specs.ArrayString.{array_string_len}
use Rattle.claim_text.specs.Lines.{numbers}
use Rattle.claim_text.proofs.answers.add_numbers.Given as goal

-- the line has the numbers so far behind what it had, three bytes at most for each
abbrev pub invariant-loop-cell : goal.invariant-loop-cell
invariant-loop-cell l = record {
  bytes : l.line.bytes ≡ l.fn.line.bytes ++ numbers (take l.cell l.board);
  len : array_string_len l.line ≤ array_string_len l.fn.line + 3 * l.cell;
}
