use Rattle.std.proofs.Common.{ℕ, ◌<◌, get_or}
use Rattle.tab_lanes.specs.Floods.{MayGrow}
use Rattle.test_parts.proofs.lanes.may_all_grow.Given as goal

-- each mask before this place is of free cells alone, which are on the board
abbrev pub invariant-loop-place : goal.invariant-loop-place
invariant-loop-place l = (i : ℕ) → i < l.place → MayGrow l.fn.side (get_or l.free i 0) (get_or l.masks i 0)
