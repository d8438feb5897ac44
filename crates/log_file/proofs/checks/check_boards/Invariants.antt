use Rattle.std.proofs.Common.{◌≡◌}
use Rattle.log_file.specs.FormFaults.{AreBoards, behind_first}
use Rattle.log_file.proofs.checks.check_boards.Given as goal

-- the lemmas before this one have boards, and the bytes behind them are left
abbrev pub invariant-loop-i : goal.invariant-loop-i
invariant-loop-i l = record {
  boards : AreBoards l.fn.header.side l.i l.bytes;
  rest : l.rest ≡ behind_first l.fn.header.side l.i l.bytes;
}
