use Rattle.log_check.proofs.DecideLemmas.{good_decided}
use Rattle.log_check.proofs.laws.lemmas_are_good_or_not.Goals as goal

-- each lemma of a log is good over a bundle or isn't
pub returns : goal.returns
returns c v is log is_log side i = good_decided v is log is_log side i
