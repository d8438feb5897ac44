use Rattle.std.proofs.Common.{inr, IfNone, ◌++◌, ◌∙◌, ap, ap₂, length, reverse, ◌≡◌, ◌-◌, refl, subst, arith}
use Rattle.arrayvec.proofs.ArrayVecLemmas.{items-with_items}
use Rattle.puz_walk.specs.Walks.{IsClosed}
use Rattle.puz_search.specs.Nodes.{node_counts}
use Rattle.puz_search.specs.Outcomes.{IsTrail}
use Rattle.puz_search.specs.Prefixes.{at_least, in_all}
use Rattle.puz_search.specs.declared.walks.Reached.{Reached}
use Rattle.puz_search.proofs.NodeLemmas.{node_closed, reached_by, reached_counts}
use Rattle.puz_search.proofs.refuting_alone.refute_by_walk.Goals as goal

-- a node to whose board there is no walk is refuted with 0 boards
pub returns-in_default : goal.returns-in_default
returns-in_default g c =
    let s = c.args.task.now in
    let node = c.args.node.now in
    let closed = subst (λ o. IfNone o (IsClosed s.guide.now.bundle node.board node.bound)) c.in_default.is c.requires.walk.1 in
    (λ count. (node_closed s node (inr closed) count 0).1 refl, omega arith)

-- the letters of the node, and then those found in reverse order, are a solution below it
pub returns-in-Err-Solved : goal.returns-in-Err-Solved
returns-in-Err-Solved g c =
    let s = c.args.task.now in
    let node = c.args.node.now in
    let reached : Reached g.row.W.Denot = record { walk = c.in-Some.walk; automaton = c.automaton.result; state = node.state } in
    let there = reached_by g.W.Walk.shown s node c.args.walk reached c.requires.walk c.in-Some.is c.automaton.ensures refl in
    let is = rw c.in-Err-Solved.field-0-is at c.in-Err-Solved.ensures.stopped in
    let turned =
    items-with_items c.search_part.new.effort.letters c.reverse.new.self (c.reverse.ensures.len ∙ ap length c.deref_mut.ensures.value)
    ∙ c.reverse.ensures.after ∙ ap reverse c.deref_mut.ensures.value in (
      (
        reverse c.search_part.new.effort.letters.items,
        subst (λ w. IsTrail w.board w.bound (reverse c.search_part.new.effort.letters.items)) there.walk is.0,
        c.joined.ensures ∙ ap₂ (λ front back. front ++ back) c.as_slice.ensures.value (c.as_slice-in-Err-Solved.ensures.value ∙ turned),
      ),
      λ boards fails. is.1 boards ((reached_counts g.W.Walk.shown s node reached there in_all boards).1 fails),
    )

-- where the search ends without a stop, the node is refuted with what was taken from the budget
pub returns-in-Ok : goal.returns-in-Ok
returns-in-Ok g c =
    let s = c.args.task.now in
    let node = c.args.node.now in
    let reached : Reached g.row.W.Denot = record { walk = c.in-Some.walk; automaton = c.automaton.result; state = node.state } in
    let there = reached_by g.W.Walk.shown s node c.args.walk reached c.requires.walk c.in-Some.is c.automaton.ensures refl in
    let is = c.in-Ok.ensures.refuted in
    let left = is.left in
    let same : is.boards ≡ c.args.effort.now.left - c.search_part.new.effort.left = omega arith in (
      λ count. subst (node_counts s node count) same ((reached_counts g.W.Walk.shown s node reached there count is.boards).0 (is.counts count)),
      omega arith,
    )

-- where the search stops for its budget, the budget is spent below the node
pub returns : goal.returns
returns g c =
    let s = c.args.task.now in
    let node = c.args.node.now in
    let reached : Reached g.row.W.Denot = record { walk = c.in-Some.walk; automaton = c.automaton.result; state = node.state } in
    let there = reached_by g.W.Walk.shown s node c.args.walk reached c.requires.walk c.in-Some.is c.automaton.ensures refl in
    let is = rw c.in-Err-Spent.field-0-is at c.in-Err-Spent.ensures.stopped in
    (is.0, (reached_counts g.W.Walk.shown s node reached there at_least is.0).0 is.1, is.2)
