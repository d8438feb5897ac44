use Rattle.std.proofs.Common.{◌+◌, ◌*◌}
use Rattle.log_check.proofs.walks.+walk.Given as goal

-- a child's bound is one less than its branch's
abbrev pub decreases-behind_tree : goal.decreases-behind_tree
decreases-behind_tree l = 3 * l.reached.now.bound + 2

-- the children of a branch come after its node, with the same bound
abbrev pub decreases-behind_children : goal.decreases-behind_children
decreases-behind_children l = 3 * l.reached.now.bound + 1

-- one child comes after the step to all children, with the same bound
abbrev pub decreases-behind_child : goal.decreases-behind_child
decreases-behind_child l = 3 * l.reached.now.bound
