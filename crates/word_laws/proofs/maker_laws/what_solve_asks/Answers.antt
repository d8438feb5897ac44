use Rattle.word_laws.proofs.LogLemmas.{both_asked, budget_first, budget_last, names_log, on_search}
use Rattle.word_laws.proofs.maker_laws.what_solve_asks.Goals as goal

-- solve with its names asks for a shortest solution, with the workers, the budget and the folding named
pub returns : goal.returns
returns c = record {
  workers = names_log on_search;
  budget = λ names folds number n. (budget_first names number n folds).0;
  other_budget = λ names folds number n. (budget_first names number n folds).1;
  both = both_asked;
  budget_last = λ names folds number n. (budget_last names number n folds).0;
  other_budget_last = λ names folds number n. (budget_last names number n folds).1;
}
