use Rattle.claim_laws.proofs.FoldLemmas.{folded_is_good}
use Rattle.claim_laws.proofs.laws.folded_logs_are_good_unfolded.Goals as goal

-- what a log proves over folded tables it proves over the full ones as well
pub returns : goal.returns
returns c = folded_is_good
