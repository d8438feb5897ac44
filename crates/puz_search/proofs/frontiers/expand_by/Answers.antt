use Rattle.std.proofs.Common.{◌≡◌, false, true, IfNone, IfSome, inr, subst, sym}
use Rattle.puz_walk.specs.Walks.{IsClosed, IsOpen}
use Rattle.puz_board.specs.Boards.{IsGoal}
use Rattle.puz_search.specs.Frontiers.{Adds}
use Rattle.puz_search.specs.Nodes.{node_counts, walk_to}
use Rattle.puz_search.proofs.CountLemmas.{adds_none, adds_one}
use Rattle.puz_search.proofs.NodeLemmas.{node_closed, opened_adds}
use Rattle.puz_search.proofs.frontiers.expand_by.Goals as goal

-- for a closed node no node is added, and no board is expanded
pub returns-in_default : goal.returns-in_default
returns-in_default g c =
    let s = c.args.task.now in
    let node = c.args.node in
    let closed = subst (λ o. IfNone o (IsClosed s.guide.now.bundle node.board node.bound)) c.in_default.is c.requires.walk.1 in
    adds_none s (node_counts s node) c.args.next.now.items (node_closed s node (inr closed))

-- the node of a goal board is added as it is, and not expanded
pub returns-then-is_goal : goal.returns-then-is_goal
returns-then-is_goal g c =
    let s = c.args.task.now in
    let node = c.args.node in
    subst (Adds s (node_counts s node) 0 c.args.next.now.items) (sym c.in_ok-push.ensures.items)
    (adds_one s (node_counts s node) c.args.next.now.items node (λ count n. (λ h. h, λ h. h)) c.requires.led)

-- for an open node those after its four moves are added, and its own board is expanded
pub returns : goal.returns
returns g c =
    let s = c.args.task.now in
    let node = c.args.node in
    let there : g.W.Walk.shown c.in-Some.walk ≡ walk_to s node =
    subst (λ o. IfSome o (λ w. g.W.Walk.shown w ≡ walk_to s node)) c.in-Some.is c.requires.walk.0 in
    let open_ : IsOpen (walk_to s node) = subst IsOpen there c.if-is_goal.ensures.is_open in
    let far : ¬ IsGoal node.board = subst (λ w. ¬ IsGoal w.board) there (λ h. let e : false ≡ true = c.if-is_goal.ensures.goal.1 h in cc) in
    opened_adds s node c.requires.inside open_.some open_.not_cut far c.args.next.now.items c.add_child.new.next.items c.add_child-2.new.next.items
    c.add_child-3.new.next.items c.add_child-4.new.next.items
    c.in_ok-add_child.ensures.adds c.in_ok-add_child-2.ensures.adds c.in_ok-add_child-3.ensures.adds c.in_ok-add_child-4.ensures.adds
