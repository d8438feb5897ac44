use Rattle.std.proofs.Common.{◌-◌, arith}
use Rattle.std.proofs.lemmas.Nat.{and_le_r}
use Rattle.edge_words.proofs.LowestLemmas.{first_clear, others_stay}
use Rattle.edge_words.proofs.edges.but_first.Goals as goal

-- a mask loses its lowest number, and no other
pub returns-clause-others : goal.returns-clause-others
returns-clause-others c first here lowest = others_stay c.args.mask first here lowest

-- the lowest number is lost
pub returns-clause-here : goal.returns-clause-here
returns-clause-here c first here lowest = first_clear c.args.mask first here lowest

-- so the mask gets less
pub returns-clause-less : goal.returns-clause-less
returns-clause-less c = let most = and_le_r c.args.mask (c.args.mask - 1) in let some = c.requires in omega arith
