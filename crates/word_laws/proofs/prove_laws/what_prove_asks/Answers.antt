use Rattle.word_laws.proofs.ProveLemmas.{both_asked, budget_first, budget_last, fold_asked, folded_twice, goal_asked, plain_asked, tableless, workers_first, workers_last}
use Rattle.word_laws.proofs.prove_laws.what_prove_asks.Goals as goal

-- prove with its names asks for an answer to each claim, with the workers, the budget and the folding named
pub returns : goal.returns
returns c = record {
  files = plain_asked;
  no_tables = tableless;
  workers = λ names folds number n. (workers_first names number n folds).0;
  other_workers = λ names folds number n. (workers_first names number n folds).1;
  workers_last = λ names folds number n. (workers_last names number n folds).0;
  other_workers_last = λ names folds number n. (workers_last names number n folds).1;
  fold_last = fold_asked;
  fold_twice = folded_twice;
  goal_last = goal_asked;
  budget = λ names folds number n. (budget_first names number n folds).0;
  other_budget = λ names folds number n. (budget_first names number n folds).1;
  both = both_asked;
  budget_last = λ names folds number n. (budget_last names number n folds).0;
  other_budget_last = λ names folds number n. (budget_last names number n folds).1;
}
