use Rattle.tab_rule.proofs.LimitLemmas.{no_greater_cost}
use Rattle.tab_rule.proofs.laws.exact_tables_bound_costs.Goals as goal

-- no board of an exact table has a finite least cost above 253
pub returns : goal.returns
returns c t is exact d has = no_greater_cost t is exact d has
