use Rattle.std.proofs.Common.{◌≡◌, ◌+◌, ◌*◌}
use Rattle.puz_make.proofs.refuting.Refuter.+refute.Given as goal

-- the board that a move led to comes before those of its moves
abbrev pub decreases-refute : goal.decreases-refute
decreases-refute l = 2 * l.remaining

-- the board after a move has one move less to refute
abbrev pub decreases-refute_after : goal.decreases-refute_after
decreases-refute_after l = 2 * l.remaining + 1

-- the board is back at that of the branch
abbrev pub invariant-refute-loop-mv : goal.invariant-refute-loop-mv
invariant-refute-loop-mv l = l.self.sums ≡ l.fn.self.sums
