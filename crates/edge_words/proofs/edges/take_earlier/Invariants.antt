use Rattle.edge_words.specs.Edges.{AreBitsUpTo}
use Rattle.edge_words.specs.Lookups.{but_last}
use Rattle.edge_words.proofs.edges.take_earlier.Given as goal

-- the bits of the first cells
abbrev pub invariant-loop-last : goal.invariant-loop-last
invariant-loop-last l = AreBitsUpTo l.fn.lookup (but_last l.fn.lookup l.fn.run.cells) l.fn.number l.last l.words
