use Rattle.edge_words.proofs.WordLemmas.{noted_is}
use Rattle.edge_words.proofs.edges.noted.Goals as goal

-- the noted word has the number's bit more where the move rises, and else is the old word
pub returns : goal.returns
returns c = noted_is c.args.word c.args.number c.args.rises c.from.result c.from.ensures c.requires
