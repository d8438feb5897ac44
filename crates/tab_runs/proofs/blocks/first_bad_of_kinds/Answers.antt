use Rattle.std.proofs.Common.{◌≡◌, ◌-◌, get_or, refl, ◌∙◌, ap, arith}
use Rattle.tab_runs.proofs.PartLemmas.{kinds_are}
use Rattle.tab_runs.proofs.RowLemmas.{few_entries}
use Rattle.tab_runs.proofs.blocks.first_bad_of_kinds.Goals as goal
use Rattle.tab_runs.proofs.blocks.first_bad_of_kinds.Goals.{then-goal-before-via-then-goal-before, then-goal-before-via-else-goal-before+then-goal-before-2}

-- where the goal's entry isn't among the run's, the bytes that tell of the regions are the kinds
pub first_bad-requires-clause-kinds : goal.first_bad-requires-clause-kinds
first_bad-requires-clause-kinds c =
    let b = c.requires.kinds.before in
    kinds_are c.args.table.now c.pattern-pattern.ensures.table.pattern c.args.run.now.cells.now c.requires.run.run c.args.kinds.now.told.now
    c.args.kinds.now.told.now b.first c.args.kinds.now.goal c.requires.kinds.told b.is_first c.requires.kinds.goal c.requires.kinds.size
    (λ place l e. absurd (elim c.then-goal-before.branch [
      | then-goal-before-via-then-goal-before w ↦ (let k = b.counted in let far = w.if-goal-before.true in omega arith)
      | then-goal-before-via-else-goal-before+then-goal-before-2 w ↦ (let k = b.counted in let near = w.if-goal-before.false in
          let far = w.if-goal-before-2.true in omega arith)
    ]))
    (λ place l ne. refl)

-- the bytes that tell of a run's regions are no more than the entries of the longest run
pub with_goal-kinds-requires-clause-few : goal.with_goal-kinds-requires-clause-few
with_goal-kinds-requires-clause-few c = let few =
    few_entries c.args.table.now.pattern c.pattern-pattern.ensures.table.pattern c.args.run.now.cells.now c.requires.run.run in
    let s = c.requires.kinds.size in omega arith

-- where the goal's entry is among the run's, the bytes that tell of the regions, with the goal's put in, are the kinds
pub first_bad-requires-2-clause-kinds : goal.first_bad-requires-2-clause-kinds
first_bad-requires-2-clause-kinds c =
    let b = c.requires.kinds.before in
    kinds_are c.args.table.now c.pattern-pattern.ensures.table.pattern c.args.run.now.cells.now c.requires.run.run c.args.kinds.now.told.now
    c.with_goal-kinds.result b.first c.args.kinds.now.goal c.requires.kinds.told b.is_first c.requires.kinds.goal c.requires.kinds.size
    (λ place l e. ap (λ k. get_or c.with_goal-kinds.result k 0) (let k = b.counted in
    let at : place ≡ c.args.kinds.now.goal - c.args.kinds.now.before = omega arith in at) ∙ c.with_goal-kinds.ensures.goal)
    (λ place l ne. c.with_goal-kinds.ensures.others place l (λ e. ne (let k = b.counted in omega arith)))

-- the kinds with the goal's put in are at least as many as the run's entries
pub first_bad-requires-2-clause-room : goal.first_bad-requires-2-clause-room
first_bad-requires-2-clause-room c =
    let few = few_entries c.args.table.now.pattern c.pattern-pattern.ensures.table.pattern c.args.run.now.cells.now c.requires.run.run in
    let k = c.with_goal-kinds.type_inv in
    omega arith
