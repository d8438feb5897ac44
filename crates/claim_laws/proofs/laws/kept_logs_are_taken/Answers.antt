use Rattle.claim_laws.proofs.TakenLemmas.{log_taken}
use Rattle.claim_laws.proofs.laws.kept_logs_are_taken.Goals as goal

-- a log that a search kept is taken by a check of it, with the number of the moves as its bound
pub returns : goal.returns
returns c = log_taken
