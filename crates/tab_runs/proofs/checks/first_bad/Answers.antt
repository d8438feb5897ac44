use Rattle.std.proofs.Common.{arith}
use Rattle.tab_runs.proofs.CheckLemmas.{run_bad, run_keeps}
use Rattle.tab_runs.proofs.RowLemmas.{few_entries}
use Rattle.tab_runs.proofs.checks.first_bad.Goals as goal

-- the run's places end within the 256 bytes of the least near entries
pub slice_bounds-first_bad-end-2 : goal.slice_bounds-first_bad-end-2
slice_bounds-first_bad-end-2 c = let few = few_entries c.args.table.now.pattern c.pattern-pattern.ensures.table.pattern c.args.run.now.cells.now
    c.requires.run.run in let high = c.requires.places.high in omega arith

-- where the columns have no breach, the run keeps the rule between its two places
pub returns-in_default : goal.returns-in_default
returns-in_default c = run_keeps c.args.table.now c.pattern-pattern.ensures.table.pattern c.args.run.now.cells.now c.requires.run.run
    c.args.run.now.own.now c.args.mins.now c.args.kinds.now c.requires.run.own c.requires.mins c.requires.kinds
    c.args.places.start c.args.places.end c.requires.places.low c.requires.places.high c.in_default.ensures

-- a breach of the columns, counted on from the first place, is the first bad place of the run
pub returns : goal.returns
returns c = run_bad c.args.table.now c.pattern-pattern.ensures.table.pattern c.args.run.now.cells.now c.requires.run.run c.args.run.now.own.now
    c.args.mins.now c.args.kinds.now c.requires.run.own c.requires.mins c.requires.kinds
    c.args.places.start c.args.places.end c.requires.places.low c.requires.places.high c.in-Some.place c.in-Some.ensures
