use Rattle.set_sum.proofs.SumLemmas.{set_once}
use Rattle.set_sum.proofs.laws.sets_say_one_thing.Goals as goal

-- no set says two different counts of one board
pub returns : goal.returns
returns c tables set b one other says also = set_once tables set b one other says also
