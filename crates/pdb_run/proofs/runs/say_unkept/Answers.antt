use Rattle.pdb_run.proofs.runs.say_unkept.Goals as goal

-- where a file can't be kept for a failed write, its name is said as the fault of a write
pub returns-in-F3-clause-said : goal.returns-in-F3-clause-said
returns-in-F3-clause-said g c = rw c.in-F3.is c.say_unwritable.ensures.said
