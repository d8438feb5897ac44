use Rattle.pdb_verdict.proofs.VerdictLemmas.{IsResult-one}
use Rattle.pdb_verdict.proofs.laws.inputs_have_one_result.Goals as goal

-- no inputs have two different results
pub returns : goal.returns
returns c = IsResult-one
