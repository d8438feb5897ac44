use Rattle.log_check.proofs.GoodLemmas.{good_lemma_bounds}
use Rattle.log_check.proofs.laws.good_lemmas_bound.Goals as goal

-- where all lemmas of a log are good, each bounds the solutions of its board
pub returns : goal.returns
returns c v is log is_log side good i lemma there = good_lemma_bounds v is log is_log side good i lemma there
