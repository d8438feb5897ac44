use Rattle.puz_search.proofs.AnswerLemmas.{whole_closed}
use Rattle.puz_search.proofs.sharing.search_by.Goals as goal

-- where there is no node of the first board, it is closed
pub returns-in_default : goal.returns-in_default
returns-in_default g c = whole_closed c.args.task.now c.args.budget c.in_default.ensures.none
