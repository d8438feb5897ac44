use Rattle.set_sum.proofs.AnswerLemmas.{sets_made, sets_refused}
use Rattle.set_sum.proofs.set_texts.SetText.read.Goals as goal

-- where a text has sets over the patterns, these are read
pub returns-clause-made : goal.returns-clause-made
returns-clause-made c sets are =
    sets_made c.args.patterns.now c.args.text.now c.read_over.result c.read_over.ensures.ok c.read_over.ensures.err sets are

-- where a text has a fault over the patterns, it is refused with this fault
pub returns-clause-refused : goal.returns-clause-refused
returns-clause-refused c fault is =
    sets_refused c.args.patterns.now c.args.text.now c.read_over.result c.read_over.ensures.ok c.read_over.ensures.err fault is
