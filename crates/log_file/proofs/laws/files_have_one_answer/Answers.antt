use Rattle.log_file.proofs.AnswerLemmas.{file_answer}
use Rattle.log_file.proofs.FileLemmas.{no_fault, one_fault, one_log}
use Rattle.log_file.proofs.laws.files_have_one_answer.Goals as goal

-- there is a log or a fault of form for each file
pub returns-clause-some : goal.returns-clause-some
returns-clause-some c = file_answer

-- there is one log at most for each file
pub returns-clause-log : goal.returns-clause-log
returns-clause-log c = one_log

-- there is one fault of form at most for each file
pub returns-clause-fault : goal.returns-clause-fault
returns-clause-fault c = one_fault

-- there are never both a log and a fault of form for a file
pub returns-clause-either : goal.returns-clause-either
returns-clause-either c = no_fault
