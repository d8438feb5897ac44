use Rattle.std.proofs.Common.{◌≡◌, ◌+◌, ◌*◌}
use Rattle.puz_make.proofs.walks.+write.Given as goal

-- the board of a branch comes before those of its moves
abbrev pub decreases-write_below : goal.decreases-write_below
decreases-write_below l = 2 * l.bound

-- the board after a move has one move less to refute
abbrev pub decreases-write_child : goal.decreases-write_child
decreases-write_child l = 2 * l.bound + 1

-- the walk is back at the board of the branch
abbrev pub invariant-write_below-loop-mv : goal.invariant-write_below-loop-mv
invariant-write_below-loop-mv l = l.sums ≡ l.fn.sums
