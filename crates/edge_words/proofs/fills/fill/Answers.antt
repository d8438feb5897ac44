use Rattle.std.proofs.Common.{◌+◌, sym, subst}
use Rattle.edge_words.specs.Fills.{AreToldBelow}
use Rattle.edge_words.proofs.FillLemmas.{told_all, told_past}
use Rattle.edge_words.proofs.fills.fill.Goals.{in-Some, in_default}
use Rattle.edge_words.proofs.fills.fill.Goals as goal

-- where the run of one more index is filled in, or no run has it, the words tell up to the next index
pub loop-index-preserved : goal.loop-index-preserved
loop-index-preserved c =
    let p = c.args.lookup.now in
    let s = c.args.span.now in
    let index = c.loop-index.index in
    elim c.match-run_at.branch [
      | in-Some w ↦ subst (AreToldBelow p s (index + 1)) (sym w.words-is) w.fill_run.ensures
      | in_default w ↦ subst (AreToldBelow p s (index + 1)) (sym w.words-is)
          (told_past p s index c.loop-index.words w.in_default.ensures c.loop-index.invariant)
    ]

-- after all indexes of the span, the words of all its runs tell of their moves
pub returns : goal.returns
returns c = told_all c.args.lookup.now c.args.span.now c.loop-index.index c.loop-index.words c.loop-index-test.false c.loop-index.invariant
