use Rattle.std.proofs.Common.{refl}
use Rattle.pdb_run.proofs.AnswerLemmas.{begun_reading, ends_answered}
use Rattle.pdb_run.proofs.runs.conclude.Goals as goal

-- where there is an answer, saying it ends the run as its plan says
pub returns-in-Ok-clause-ends : goal.returns-in-Ok-clause-ends
returns-in-Ok-clause-ends g c = λ inputs old are by.
    let right = rw c.in-Ok.is at by in
    ends_answered (begun_reading c.requires are) right.1 right.2 c.say_answer.ensures.said (rw c.requires refl) (rw c.requires refl)
    refl refl refl
