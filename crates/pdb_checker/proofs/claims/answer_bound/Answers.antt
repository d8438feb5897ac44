use Rattle.std.proofs.Common.{subst}
use Rattle.pdb_checker.specs.Searches.{IsFoundFor}
use Rattle.pdb_checker.specs.declared.searches.Question.TheVariants.{Below}
use Rattle.pdb_checker.proofs.claims.answer_bound.Goals as goal

-- where the search refutes that there is a solution of fewer moves, there is none
pub returns-in-Ok-clause-yes : goal.returns-in-Ok-clause-yes
returns-in-Ok-clause-yes c = λ _.
    let found = subst (λ b. IsFoundFor b (Below c.args.bound) c.search.result) c.of-start.ensures.board c.search.ensures in
    c.in-Ok.ensures.ok c.args.board.now c.args.bound found
