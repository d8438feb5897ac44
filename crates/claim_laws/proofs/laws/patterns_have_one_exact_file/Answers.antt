use Rattle.claim_laws.proofs.FileLemmas.{one_file}
use Rattle.claim_laws.proofs.laws.patterns_have_one_exact_file.Goals as goal

-- exact files of one pattern are the same bytes
pub returns : goal.returns
returns c = one_file
