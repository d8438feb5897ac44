use Rattle.edge_words.specs.Edges.{AreBitsBelow}
use Rattle.edge_words.specs.Lookups.{but_last}
use Rattle.edge_words.proofs.edges.words_of.Given as goal

-- the bits of the moves so far
abbrev pub invariant-loop-number : goal.invariant-loop-number
invariant-loop-number l = AreBitsBelow l.fn.lookup (but_last l.fn.lookup l.fn.run.cells) l.number l.words
