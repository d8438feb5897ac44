use Rattle.log_check.proofs.GoodLemmas.{good_bounds}
use Rattle.log_check.proofs.laws.good_logs_bound.Goals as goal

-- a good log for a board bounds the solutions of the board
pub returns : goal.returns
returns c v is log is_log b bound good = good_bounds v is log is_log b bound good
