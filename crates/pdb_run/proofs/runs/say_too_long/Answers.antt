use Rattle.pdb_run.proofs.runs.say_too_long.Goals as goal

-- the name is said as a line shows it
pub returns-clause-said : goal.returns-clause-said
returns-clause-said g c = rw (← c.name_of.ensures) c.say_named.ensures.said
