use Rattle.std.proofs.Common.{◌≡◌, ◌+◌, ◌-◌, refl, sym, ap, subst, arith}
use Rattle.puz_board.specs.Boards.{IsGoal}
use Rattle.puz_board.specs.declared.moves.Move.TheVariants.{Right}
use Rattle.move_strings.specs.Automata.{next_at}
use Rattle.puz_search.specs.Guides.{ShownGuide}
use Rattle.puz_search.specs.Outcomes.{AfterMove, IsRefuted, IsStop, bound_at, is_solved_at, prefix_child_counts, prefix_children_counts}
use Rattle.puz_search.specs.Outcomes.{prefix_counts_at, walk_at}
use Rattle.puz_search.specs.Prefixes.{part_of}
use Rattle.puz_search.specs.declared.efforts.Effort.{Effort}
use Rattle.puz_search.specs.declared.walks.Reached.{Reached}
use Rattle.puz_search.proofs.WalkLemmas.{child_refuted, child_stopped, err_as, err_both, err_is, goal_solved, nowhere_refuted, ok_as, ok_both, opened_refuted, opened_stopped}
use Rattle.puz_search.proofs.WalkLemmas.{refuted_four, spent_stopped, step_kept, stopped_first, stopped_fourth, stopped_second, stopped_third}
use Rattle.puz_search.proofs.part_walks.+search_part.Goals as goal

-- while letters of a part are to come, an open board that is the goal stops the search as solved
pub search_part-returns-then-is_goal-clause-stopped : goal.search_part-returns-then-is_goal-clause-stopped
search_part-returns-then-is_goal-clause-stopped g t c =
    let x = c.args.prefix.now in
    goal_solved g.W.Walk.shown (part_of x) x.ahead x.rank c.args.reached.now
    (c.is_outside.ensures.inside c.if-is_outside.false) c.is_goal.ensures.is_open (c.if-is_goal.ensures.goal.0 refl) c.args.effort.now.letters.items
    c.requires.none

-- while letters of a part are to come, an open board without budget stops the search as spent
pub search_part-returns-then-effort-eq0-clause-stopped : goal.search_part-returns-then-effort-eq0-clause-stopped
search_part-returns-then-effort-eq0-clause-stopped g t c =
    let x = c.args.prefix.now in
    let far : ¬ IsGoal (walk_at g.W.Walk.shown c.args.reached.now).board = λ goal. let test = c.is_goal.ensures.goal.1 goal in let no = c.if-is_goal.false in cc in
    spent_stopped g.W.Walk.shown (part_of x) x.ahead x.rank c.args.reached.now
    (c.is_outside.ensures.inside c.if-is_outside.false) c.is_goal.ensures.is_open far c.args.effort.now c.if-effort-eq0.true

-- while letters of a part are to come, a board whose moves are refuted is refuted, with itself expanded
pub search_part-returns-clause-refuted : goal.search_part-returns-clause-refuted
search_part-returns-clause-refuted g t c =
    let shown = g.W.Walk.shown in
    let r = c.args.reached.now in
    let x = c.args.prefix.now in
    let old = c.args.effort.now in
    let spent : Effort = record { left = old.left - 1; letters = old.letters } in
    let new = c.search_part_children.new.effort in
    let one : old.left ≡ spent.left + 1 = (let other = c.if-effort-eq0.false in omega arith) in
    let far : ¬ IsGoal (walk_at shown r).board = λ goal. let test = c.is_goal.ensures.goal.1 goal in let no = c.if-is_goal.false in cc in
    ok_as (IsRefuted (prefix_children_counts shown x r) spent new)
    (IsRefuted (prefix_counts_at shown x r) old new)
    (λ is. opened_refuted shown (part_of x) x.ahead x.rank r
    (c.is_outside.ensures.inside c.if-is_outside.false) c.is_goal.ensures.is_open far old spent new one is)
    c.search_part_children.result c.search_part_children.ensures.refuted

-- while letters of a part are to come, a board stops where its moves do
pub search_part-returns-clause-stopped : goal.search_part-returns-clause-stopped
search_part-returns-clause-stopped g t c =
    let shown = g.W.Walk.shown in
    let r = c.args.reached.now in
    let x = c.args.prefix.now in
    let old = c.args.effort.now in
    let spent : Effort = record { left = old.left - 1; letters = old.letters } in
    let new = c.search_part_children.new.effort in
    let one : old.left ≡ spent.left + 1 = (let other = c.if-effort-eq0.false in omega arith) in
    let far : ¬ IsGoal (walk_at shown r).board = λ goal. let test = c.is_goal.ensures.goal.1 goal in let no = c.if-is_goal.false in cc in
    err_as (λ stop. IsStop (prefix_children_counts shown x r) (is_solved_at shown r) stop spent new)
    (λ stop. IsStop (prefix_counts_at shown x r) (is_solved_at shown r) stop old new)
    (λ stop is. opened_stopped shown (part_of x) x.ahead x.rank r
    (c.is_outside.ensures.inside c.if-is_outside.false) c.is_goal.ensures.is_open far old spent new one stop is)
    c.search_part_children.result c.search_part_children.ensures.stopped

-- in the search of a part, a board's moves stop where the one up does
pub search_part_children-returns-in_err-search_part_child-clause-stopped :
    goal.search_part_children-returns-in_err-search_part_child-clause-stopped
search_part_children-returns-in_err-search_part_child-clause-stopped g t c =
    let shown = g.W.Walk.shown in
    let r = c.args.reached.now in
    let x = c.args.prefix.now in
    let a = c.args.effort.now in
    let b = c.search_part_child.new.effort in
    err_is (λ stop. IsStop (prefix_children_counts shown x r) (is_solved_at shown r) stop a b)
    c.in_err-search_part_child.field-0.0 c.from_residual.result
    c.from_residual.ensures.1
    (stopped_first shown (part_of x) x.ahead x.rank r r r r refl refl refl c.in_err-search_part_child.field-0.0 a b
    c.in_err-search_part_child.ensures.stopped)

-- in the search of a part, a board's moves stop where the one up is refuted and the one down stops
pub search_part_children-returns-in_err-search_part_child-2-clause-stopped :
    goal.search_part_children-returns-in_err-search_part_child-2-clause-stopped
search_part_children-returns-in_err-search_part_child-2-clause-stopped g t c =
    let shown = g.W.Walk.shown in
    let r = c.args.reached.now in
    let x = c.args.prefix.now in
    let s = c.search_part_child.new.reached in
    let a = c.args.effort.now in
    let b = c.search_part_child.new.effort in
    let d = c.search_part_child-2.new.effort in
    err_is (λ stop. IsStop (prefix_children_counts shown x r) (is_solved_at shown r) stop a d)
    c.in_err-search_part_child-2.field-0.0 c.from_residual-in_err-search_part_child-2.result
    c.from_residual-in_err-search_part_child-2.ensures.1
    (stopped_second shown (part_of x) x.ahead x.rank r s s s c.search_part_child.ensures.same refl refl a b c.in_ok-search_part_child.ensures.refuted
    c.in_err-search_part_child-2.field-0.0 d c.in_err-search_part_child-2.ensures.stopped)

-- in the search of a part, a board's moves stop where the first two are refuted and the one left stops
pub search_part_children-returns-in_err-search_part_child-3-clause-stopped :
    goal.search_part_children-returns-in_err-search_part_child-3-clause-stopped
search_part_children-returns-in_err-search_part_child-3-clause-stopped g t c =
    let shown = g.W.Walk.shown in
    let r = c.args.reached.now in
    let x = c.args.prefix.now in
    let s = c.search_part_child.new.reached in
    let t2 = c.search_part_child-2.new.reached in
    let a = c.args.effort.now in
    let b = c.search_part_child.new.effort in
    let d = c.search_part_child-2.new.effort in
    let e = c.search_part_child-3.new.effort in
    err_is (λ stop. IsStop (prefix_children_counts shown x r) (is_solved_at shown r) stop a e)
    c.in_err-search_part_child-3.field-0.0 c.from_residual-in_err-search_part_child-3.result
    c.from_residual-in_err-search_part_child-3.ensures.1
    (stopped_third shown (part_of x) x.ahead x.rank r s t2 t2 c.search_part_child.ensures.same c.search_part_child-2.ensures.same refl a b
    c.in_ok-search_part_child.ensures.refuted d c.in_ok-search_part_child-2.ensures.refuted c.in_err-search_part_child-3.field-0.0 e
    c.in_err-search_part_child-3.ensures.stopped)

-- in the search of a part, a board's moves are refuted where the one right is, after the other three
pub search_part_children-returns-clause-refuted : goal.search_part_children-returns-clause-refuted
search_part_children-returns-clause-refuted g t c =
    let shown = g.W.Walk.shown in
    let r = c.args.reached.now in
    let x = c.args.prefix.now in
    let s = c.search_part_child.new.reached in
    let t2 = c.search_part_child-2.new.reached in
    let u = c.search_part_child-3.new.reached in
    let a = c.args.effort.now in
    let b = c.search_part_child.new.effort in
    let d = c.search_part_child-2.new.effort in
    let e = c.search_part_child-3.new.effort in
    let f = c.search_part_child-4.new.effort in
    ok_as (IsRefuted (prefix_child_counts shown x u Right) e f)
    (IsRefuted (prefix_children_counts shown x r) a f)
    (λ is. refuted_four shown (part_of x) x.ahead x.rank r s t2 u c.search_part_child.ensures.same c.search_part_child-2.ensures.same
    c.search_part_child-3.ensures.same a b c.in_ok-search_part_child.ensures.refuted d c.in_ok-search_part_child-2.ensures.refuted e
    c.in_ok-search_part_child-3.ensures.refuted f is)
    c.search_part_child-4.result c.search_part_child-4.ensures.refuted

-- in the search of a part, a board's moves stop where the first three are refuted and the one right stops
pub search_part_children-returns-clause-stopped : goal.search_part_children-returns-clause-stopped
search_part_children-returns-clause-stopped g t c =
    let shown = g.W.Walk.shown in
    let r = c.args.reached.now in
    let x = c.args.prefix.now in
    let s = c.search_part_child.new.reached in
    let t2 = c.search_part_child-2.new.reached in
    let u = c.search_part_child-3.new.reached in
    let a = c.args.effort.now in
    let b = c.search_part_child.new.effort in
    let d = c.search_part_child-2.new.effort in
    let e = c.search_part_child-3.new.effort in
    let f = c.search_part_child-4.new.effort in
    err_as (λ stop. IsStop (prefix_child_counts shown x u Right) (is_solved_at shown u) stop e f)
    (λ stop. IsStop (prefix_children_counts shown x r) (is_solved_at shown r) stop a f)
    (λ stop is. stopped_fourth shown (part_of x) x.ahead x.rank r s t2 u c.search_part_child.ensures.same c.search_part_child-2.ensures.same
    c.search_part_child-3.ensures.same a b c.in_ok-search_part_child.ensures.refuted d c.in_ok-search_part_child-2.ensures.refuted e
    c.in_ok-search_part_child-3.ensures.refuted stop f is)
    c.search_part_child-4.result c.search_part_child-4.ensures.stopped

-- in the search of a part, a move is refuted where the board after it is
pub search_part_child-returns-in-Some-enter-clause-refuted : goal.search_part_child-returns-in-Some-enter-clause-refuted
search_part_child-returns-in-Some-enter-clause-refuted g t c =
    let shown = g.W.Walk.shown in
    let r = c.args.reached.now in
    let x = c.args.prefix.now in
    let y = c.after.result in
    let e = c.after.ensures in
    let on = step_kept r.automaton.now.steps r.state c.in-Some.next c.args.mv c.in-Some.ensures.next.0 c.in-Some.ensures.next.1 in
    let state = sym {a = next_at r.automaton.now.steps r.state c.args.mv} c.in-Some.ensures.next.0 in
    let is = c.in-Some-enter.ensures.some in
    let next : Reached g.row.W.Denot = record { walk = c.enter.new.self; automaton = r.automaton; state = c.in-Some.next } in
    let old = c.args.effort.now in
    let between = c.search_part-outcome.new.effort in
    let new = c.after_move.new.effort in
    let guide = ap {B = ShownGuide} (λ v. record { bundle = v; steps = r.automaton.now.steps }) is.1 in
    let less : bound_at shown next ≡ bound_at shown r - 1 = (let one : bound_at shown next + 1 ≡ bound_at shown r = is.2 in omega arith) in
    ok_both (IsRefuted (prefix_counts_at shown c.after.result next) old between) (new ≡ between)
    (IsRefuted (prefix_child_counts shown x r c.args.mv) old new)
    (λ refuted same. subst (IsRefuted (prefix_child_counts shown x r c.args.mv) old) (sym {a = new} same)
    (child_refuted shown (part_of x) x.ahead x.rank r next c.args.mv c.requires.bound on is.0 guide state less (part_of y) y.ahead y.rank e.part
    e.ahead e.rank old between refuted))
    c.search_part-outcome.result c.after_move.result c.after_move.ensures.outcome c.search_part-outcome.ensures.refuted c.after_move.ensures.refuted

-- in the search of a part, a move stops where the board after it does, with its letter added to a solution
pub search_part_child-returns-in-Some-enter-clause-stopped : goal.search_part_child-returns-in-Some-enter-clause-stopped
search_part_child-returns-in-Some-enter-clause-stopped g t c =
    let shown = g.W.Walk.shown in
    let r = c.args.reached.now in
    let x = c.args.prefix.now in
    let y = c.after.result in
    let e = c.after.ensures in
    let on = step_kept r.automaton.now.steps r.state c.in-Some.next c.args.mv c.in-Some.ensures.next.0 c.in-Some.ensures.next.1 in
    let state = sym {a = next_at r.automaton.now.steps r.state c.args.mv} c.in-Some.ensures.next.0 in
    let is = c.in-Some-enter.ensures.some in
    let next : Reached g.row.W.Denot = record { walk = c.enter.new.self; automaton = r.automaton; state = c.in-Some.next } in
    let old = c.args.effort.now in
    let between = c.search_part-outcome.new.effort in
    let new = c.after_move.new.effort in
    let guide = ap {B = ShownGuide} (λ v. record { bundle = v; steps = r.automaton.now.steps }) is.1 in
    let less : bound_at shown next ≡ bound_at shown r - 1 = (let one : bound_at shown next + 1 ≡ bound_at shown r = is.2 in omega arith) in
    err_both (λ stop. IsStop (prefix_counts_at shown c.after.result next) (is_solved_at shown next) stop old between)
    (λ stop. AfterMove c.args.mv stop between new)
    (λ stop. IsStop (prefix_child_counts shown x r c.args.mv) (is_solved_at shown r) stop old new)
    (λ stop. child_stopped shown (part_of x) x.ahead x.rank r next c.args.mv c.requires.bound on is.0 guide state less (part_of y) y.ahead y.rank e.part
    e.ahead e.rank stop old between new)
    c.search_part-outcome.result c.after_move.result c.after_move.ensures.outcome c.search_part-outcome.ensures.stopped c.after_move.ensures.stopped

-- in the search of a part, a move can be taken back: its step has led to the walk that is left
pub search_part_child-leave-requires : goal.search_part_child-leave-requires
search_part_child-leave-requires g t c =
    let r = c.args.reached.now in
    let walk = ap (λ x. x.walk) c.search_part-outcome.ensures.same in
    (r.walk, subst (λ w. g.W.Walk.leads r.walk w c.in-Some-enter.step) (sym walk) c.in-Some-enter.ensures.some.3)

-- in the search of a part, once a move is taken back, what was reached is as before it
pub search_part_child-returns-in-Some-enter-clause-same : goal.search_part_child-returns-in-Some-enter-clause-same
search_part_child-returns-in-Some-enter-clause-same g t c =
    let r = c.args.reached.now in
    let walk = ap (λ x. x.walk) c.search_part-outcome.ensures.same in
    let automaton = ap (λ x. x.automaton) c.search_part-outcome.ensures.same in
    let back : c.leave.new.self ≡ r.walk = c.leave.ensures r.walk
    (subst (λ w. g.W.Walk.leads r.walk w c.in-Some-enter.step) (sym walk) c.in-Some-enter.ensures.some.3) in
    λ i. record { walk = back i; automaton = automaton i; state = r.state }

-- in the search of a part, a move that leads to no open board is refuted without effort
pub search_part_child-returns-in-None-clause-refuted : goal.search_part_child-returns-in-None-clause-refuted
search_part_child-returns-in-None-clause-refuted g t c =
    let x = c.args.prefix.now in
    nowhere_refuted g.W.Walk.shown (part_of x) x.ahead x.rank c.args.reached.now c.args.mv c.args.effort.now c.in-None.ensures.none.1 c.requires.none
