use Rattle.move_strings.proofs.BoundPartLemmas.{of_all_parts}
use Rattle.move_strings.proofs.laws.parts_give_the_bound.Goals as goal

-- where each part of a bound holds of a board, the bound holds
pub returns : goal.returns
returns c side b good n count some parts path solves = of_all_parts side b good n count some parts path solves
