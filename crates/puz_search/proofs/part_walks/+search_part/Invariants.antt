use Rattle.std.proofs.Common.{◌+◌, ◌*◌}
use Rattle.puz_search.specs.Outcomes.{bound_at}
use Rattle.puz_search.proofs.part_walks.+search_part.Given as goal

-- the bound after a move is one less than that before it
abbrev pub decreases-search_part : goal.decreases-search_part
decreases-search_part g l = 3 * bound_at g.W.Walk.shown l.reached.now + 2

-- the measure of the search of a part at all moves of a board: three times the bound, and one
abbrev pub decreases-search_part_children : goal.decreases-search_part_children
decreases-search_part_children g l = 3 * bound_at g.W.Walk.shown l.reached.now + 1

-- the measure of the search of a part at one move of a board: three times the bound
abbrev pub decreases-search_part_child : goal.decreases-search_part_child
decreases-search_part_child g l = 3 * bound_at g.W.Walk.shown l.reached.now
