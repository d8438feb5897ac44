use Rattle.pdb_run.proofs.SpareLemmas.{looks_found, looks_there}
use Rattle.pdb_run.proofs.runs.spares_what_is_there.Goals as goal

-- where memory is wanted to see what the bytes that were found are, they were looked at
pub returns-in-Ok-Some-clause-unseen : goal.returns-in-Ok-Some-clause-unseen
returns-in-Ok-Some-clause-unseen g c =
    looks_found c.in-Some.most c.in-Some.ensures.over _ _ c.spares.result c.in-Ok-Some.file.items
    (rw c.in-Ok-Some.field-0-is at c.in-Ok-Some.ensures.found)

-- and where it is wanted to read them
pub returns-in-Err-Memory-clause-unseen : goal.returns-in-Err-Memory-clause-unseen
returns-in-Err-Memory-clause-unseen g c =
    looks_there c.in-Some.most c.in-Some.ensures.over _ _ (search (c.in-Err-Memory.ensures.memory, c.in-Err-Memory.field-0-is))
