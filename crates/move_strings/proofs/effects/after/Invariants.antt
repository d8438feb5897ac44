use Rattle.std.proofs.Common.{◌≡◌, drop}
use Rattle.puz_board.specs.Paths.{board_after}
use Rattle.move_strings.proofs.effects.after.Given as goal

-- from the board so far, the moves that are left lead to where all of them lead
abbrev pub invariant-loop-mv : goal.invariant-loop-mv
invariant-loop-mv l = board_after l.fn.board l.moves ≡ board_after l.at (drop l.mv-index l.moves)
