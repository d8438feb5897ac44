use Rattle.pdb_run.proofs.SpareLemmas.{input_at}
use Rattle.pdb_run.proofs.io.is_input.Goals as goal

-- a name that one of the inputs has is that of an input
pub returns-then-has_name : goal.returns-then-has_name
returns-then-has_name g c = input_at _ _ _ _ _ _ c.loop-input-test.true c.has_name.ensures c.if-has_name.true
