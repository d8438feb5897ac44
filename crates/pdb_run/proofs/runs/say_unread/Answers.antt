use Rattle.pdb_run.proofs.runs.say_unread.Goals as goal

-- where an input can't be read for a failed read, its name is said as the fault of a read
pub returns-in-F1-clause-said : goal.returns-in-F1-clause-said
returns-in-F1-clause-said g c = rw c.in-F1.is c.say_unreadable.ensures.said

-- where an input is too large, its name is said as the fault of a size
pub returns-in-F2-clause-said : goal.returns-in-F2-clause-said
returns-in-F2-clause-said g c = rw c.in-F2.is c.say_too_long.ensures.said
