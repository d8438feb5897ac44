use Rattle.std.proofs.Common.{sym}
use Rattle.std.proofs.lemmas.List.{length-map}
use Rattle.pdb_run.proofs.ReadingLemmas.{AreRead-length}
use Rattle.pdb_run.proofs.AnswerLemmas.{ends_unread}
use Rattle.pdb_run.proofs.runs.read_wanted.Goals as goal

-- where all inputs are read, they are those that the plan of the command names
pub returns-in-Ok-load_all-clause-read : goal.returns-in-Ok-load_all-clause-read
returns-in-Ok-load_all-clause-read g c = rw c.requires at c.in-Ok-load_all.ensures.read

-- as many inputs are read as the plan of the command names
pub returns-in-Ok-load_all-clause-count : goal.returns-in-Ok-load_all-clause-count
returns-in-Ok-load_all-clause-count g c =
    let same = AreRead-length _ _ _ _ c.in-Ok-load_all.ensures.read.read in
    rw (← c.requires, ← same) (sym (length-map _ _))

-- where an input can't be read, saying so ends the run as its plan says
pub returns-in-Err-clause-ends : goal.returns-in-Err-clause-ends
returns-in-Err-clause-ends g c = ends_unread (rw c.requires at c.in-Err.ensures.unread) c.say_unread.ensures.said
