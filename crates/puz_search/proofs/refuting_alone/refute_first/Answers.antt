use Rattle.puz_search.proofs.AnswerLemmas.{whole_closed}
use Rattle.puz_search.proofs.refuting_alone.refute_first.Goals as goal

-- where there is no node of the first board, it is closed
pub returns-in-None : goal.returns-in-None
returns-in-None c = whole_closed c.args.task.now c.args.budget c.in-None.ensures.none
