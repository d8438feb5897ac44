use Rattle.edge_words.specs.Edges.{AreBitsLeft}
use Rattle.edge_words.specs.Lookups.{but_last}
use Rattle.edge_words.proofs.edges.take_last.Given as goal

-- the bits of the first cells
abbrev pub invariant-lasts : goal.invariant-lasts
invariant-lasts l = AreBitsLeft l.fn.lookup (but_last l.fn.lookup l.fn.run.cells) l.fn.number l.open l.left l.words

-- the mask of the cells that are left, as a number
abbrev pub decreases-lasts : goal.decreases-lasts
decreases-lasts l = l.left
