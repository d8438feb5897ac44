use Rattle.std.proofs.Common.{◌≤◌, arith, subst}
use Rattle.puz_board.proofs.laws.the_least_cost_is_one_number.Goals as goal

-- two least costs of the same tiles on one board are the same number
pub returns : goal.returns
returns c tiles b d e is also =
    let low : d ≤ e = subst (λ k. d ≤ k) also.costs (is.least also.path also.leads) in
    let high : e ≤ d = subst (λ k. e ≤ k) is.costs (also.least is.path is.leads) in
    omega arith
