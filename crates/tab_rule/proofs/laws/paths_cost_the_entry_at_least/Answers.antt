use Rattle.tab_rule.proofs.StepLemmas.{path_cost}
use Rattle.tab_rule.proofs.laws.paths_cost_the_entry_at_least.Goals as goal

-- where all entries keep the rule, no path home costs less than the entry of its board, a count
pub returns : goal.returns
returns c t is keeps b good e entry path leads = path_cost t is b good keeps e entry path leads
