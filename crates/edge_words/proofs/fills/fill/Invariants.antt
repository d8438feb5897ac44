use Rattle.edge_words.specs.Fills.{AreToldBelow}
use Rattle.edge_words.proofs.fills.fill.Given as goal

-- the words of the runs so far
abbrev pub invariant-loop-index : goal.invariant-loop-index
invariant-loop-index l = AreToldBelow l.fn.lookup l.fn.span l.index l.words
