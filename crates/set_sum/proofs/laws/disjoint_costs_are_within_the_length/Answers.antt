use Rattle.set_sum.proofs.CostLemmas.{total_cost-within}
use Rattle.set_sum.proofs.laws.disjoint_costs_are_within_the_length.Goals as goal

-- what a path costs disjoint patterns together is at most its length
pub returns : goal.returns
returns c patterns apart b path = total_cost-within patterns apart path b
