use Rattle.pdb_verdict.proofs.VerdictLemmas.{no_told}
use Rattle.pdb_verdict.proofs.laws.tables_told_no_are_not_exact.Goals as goal

-- a table file that is refused is no exact file, of whatever pattern
pub returns : goal.returns
returns c = no_told
