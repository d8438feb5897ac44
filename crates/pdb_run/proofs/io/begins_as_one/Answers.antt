use Rattle.pdb_run.proofs.SpareLemmas.{front_at}
use Rattle.pdb_run.proofs.io.begins_as_one.Goals as goal

-- a file that begins in one of the ways begins as one of them all
pub returns-then-begins_with : goal.returns-then-begins_with
returns-then-begins_with g c = front_at _ _ _ _ _ _ c.loop-front-test.true c.begins_with.ensures c.if-begins_with.true
