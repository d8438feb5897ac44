use Rattle.tab_rule.proofs.LimitLemmas.{passed_board}
use Rattle.tab_rule.proofs.laws.passed_counts_are_costs.Goals as goal

-- where a table passes a count, some board has one more as its least cost
pub returns : goal.returns
returns c most few t is passed = passed_board most few t is passed
