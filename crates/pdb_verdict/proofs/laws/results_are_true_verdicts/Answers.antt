use Rattle.pdb_verdict.proofs.VerdictLemmas.{IsResult-true}
use Rattle.pdb_verdict.proofs.laws.results_are_true_verdicts.Goals as goal

-- a verdict is the result exactly where it is true of the inputs
pub returns : goal.returns
returns c = IsResult-true
