use Rattle.std.proofs.Common.{◌≡◌, false, Some, inl, refl, sym, ◌∙◌, subst}
use Rattle.puz_board.specs.Boards.{moved}
use Rattle.puz_walk.specs.Walks.{LeadsNowhere}
use Rattle.puz_search.specs.Frontiers.{Adds, child_counts_of}
use Rattle.puz_search.specs.Searches.{leaves_out}
use Rattle.puz_search.proofs.CountLemmas.{adds_none, adds_one}
use Rattle.puz_search.proofs.NodeLemmas.{child_closed, child_nowhere, child_out, child_same}
use Rattle.puz_search.proofs.WalkLemmas.{step_kept}
use Rattle.puz_search.proofs.frontiers.add_child.Goals as goal

-- where the automaton leaves a move out, no node is added for it, and its search fails with 0 boards
pub returns-in_default-clause-adds : goal.returns-in_default-clause-adds
returns-in_default-clause-adds g c =
    let s = c.args.task.now in
    let node = c.args.node.now in
    adds_none s (child_counts_of s node c.args.mv) c.args.next.now.items (child_out s node c.args.mv c.in_default.ensures.next)

-- where the move leads nowhere, no node is added for it
pub returns-in_default-sums_after-clause-adds : goal.returns-in_default-sums_after-clause-adds
returns-in_default-sums_after-clause-adds g c =
    let s = c.args.task.now in
    let node = c.args.node.now in
    adds_none s (child_counts_of s node c.args.mv) c.args.next.now.items
    (child_nowhere s node c.args.mv (subst (λ w. LeadsNowhere w c.args.mv) c.requires.walk c.in_default-sums_after.ensures.none))

-- where the board after a move is still to be searched, its node is the one that is added
pub returns-in_ok-push-clause-adds : goal.returns-in_ok-push-clause-adds
returns-in_ok-push-clause-adds g c =
    let s = c.args.task.now in
    let node = c.args.node.now in
    let move = c.args.mv in
    let child = c.after-child.result in
    let e = c.after-child.ensures in
    let on : leaves_out s.guide.now.steps node.state move ≡ false =
    step_kept s.guide.now.steps node.state c.in-Some.state move c.in-Some.ensures.next.0 c.in-Some.ensures.next.1 in
    let state = e.state ∙ sym c.in-Some.ensures.next.0 in
    let leads : moved node.board move ≡ Some c.in-Some-apply.board = sym c.apply.ensures ∙ c.in-Some-apply.is in
    subst (Adds s (child_counts_of s node move) 0 c.args.next.now.items) (sym c.in_ok-push.ensures.items)
    (adds_one s (child_counts_of s node move) c.args.next.now.items child
    (child_same s node child move c.in-Some-apply.board leads on e.board state e.bound e.part e.ahead e.rank) e.led)

-- where the node after a move is outside the part, it isn't added
pub returns-else-not-is_outside-clause-adds : goal.returns-else-not-is_outside-clause-adds
returns-else-not-is_outside-clause-adds g c =
    let s = c.args.task.now in
    let node = c.args.node.now in
    let move = c.args.mv in
    let child = c.after-child.result in
    let e = c.after-child.ensures in
    let on : leaves_out s.guide.now.steps node.state move ≡ false =
    step_kept s.guide.now.steps node.state c.in-Some.state move c.in-Some.ensures.next.0 c.in-Some.ensures.next.1 in
    let state = e.state ∙ sym c.in-Some.ensures.next.0 in
    let leads : moved node.board move ≡ Some c.in-Some-apply.board = sym c.apply.ensures ∙ c.in-Some-apply.is in
    adds_none s (child_counts_of s node move) c.args.next.now.items
    (child_closed s node child move c.in-Some-apply.board leads on e.board state e.bound e.part e.ahead e.rank (inl (c.if-not-is_outside.ensures.outside refl)))
