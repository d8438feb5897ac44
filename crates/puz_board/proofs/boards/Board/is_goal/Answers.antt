use Rattle.std.proofs.Common.{◌≡◌, sym, ◌∙◌, ap}
use Rattle.puz_board.specs.Boards.{is_goal}
use Rattle.puz_board.proofs.BoardLemmas.{goal-is_goal, is_goal-goal}
use Rattle.puz_board.proofs.boards.Board.is_goal.Goals as goal

-- the test says yes of the goal board, and of no other board
pub returns-clause-goal : goal.returns-clause-goal
returns-clause-goal c =
    let is : c.is_in_order.result ≡ is_goal c.args.self.now = c.is_in_order.ensures ∙ ap is_goal c.numbers.ensures.numbers in
    (λ passed. goal-is_goal c.args.self.now (sym is ∙ passed), λ good. is ∙ is_goal-goal c.args.self.now good)
