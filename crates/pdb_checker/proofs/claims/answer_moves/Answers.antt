use Rattle.std.proofs.Common.{◌≡◌, arith, subst}
use Rattle.pdb_checker.specs.Searches.{IsFoundFor}
use Rattle.pdb_checker.specs.declared.searches.Question.TheVariants.{Below}
use Rattle.pdb_checker.proofs.claims.answer_moves.Goals as goal

-- where the search refutes that there is a solution of fewer moves, there is none
pub returns-in-Ok-refuted-clause-yes : goal.returns-in-Ok-refuted-clause-yes
returns-in-Ok-refuted-clause-yes c = λ _.
    let told = c.of.ensures.count in
    let least = c.min-bound.ensures in
    let few = c.if-count-le255.true in
    let same : c.of.result.count ≡ c.in-Ok.count = omega arith in
    let found = subst (λ b. IsFoundFor b (Below c.min-bound.result) c.search.result) c.of-start.ensures.board c.search.ensures in
    let none = c.in-Ok-refuted.ensures.ok c.args.board.now c.min-bound.result found in
    (rw same c.in-Ok.ensures.ok, rw told none)

-- a solution of fewer moves than the bound has fewer than the claim's
pub returns-in-Err-refuted-clause-shorter : goal.returns-in-Err-refuted-clause-shorter
returns-in-Err-refuted-clause-shorter c = λ is.
    let least = c.min-bound.ensures in
    let found = subst (λ b. IsFoundFor b (Below c.min-bound.result) c.search.result) c.of-start.ensures.board c.search.ensures in
    let less = c.in-Err-refuted.ensures.shorter is c.args.board.now c.min-bound.result found in
    record {
      n = c.in-Ok.count;
      m = less.0;
      solved = c.in-Ok.ensures.ok;
      fewer = omega (arith, less.1, least);
      shorter = less.2;
    }
