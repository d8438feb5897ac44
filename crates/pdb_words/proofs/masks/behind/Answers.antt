use Rattle.pdb_words.proofs.MaskLemmas.{behind_is}
use Rattle.pdb_words.proofs.masks.behind.Goals as goal

-- what is behind a front is the rest of the text, where this begins with the front
pub returns : goal.returns
returns c = behind_is c.args.front.now c.args.text.now c.strip_prefix.result c.strip_prefix.ensures.cases
