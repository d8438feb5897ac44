use Rattle.edge_words.specs.Fills.{AreToldUpTo}
use Rattle.edge_words.proofs.fills.fill_run.Given as goal

-- and those of this run's placements so far
abbrev pub invariant-loop-last : goal.invariant-loop-last
invariant-loop-last l = AreToldUpTo l.fn.lookup l.fn.span l.fn.index l.last l.words
