use Rattle.log_check.proofs.AnswerLemmas.{check_answer, good_or_fault, one_bound, one_fault}
use Rattle.log_check.proofs.laws.files_have_one_answer.Goals as goal

-- over a bundle and for a board, each file is that of a good log or has a fault
pub returns-clause-some : goal.returns-clause-some
returns-clause-some c = check_answer

-- for a board no file is that of good logs with two bounds
pub returns-clause-bound : goal.returns-clause-bound
returns-clause-bound c = one_bound

-- for a board no file has two faults
pub returns-clause-fault : goal.returns-clause-fault
returns-clause-fault c = one_fault

-- for a board no file of a good log has a fault as well
pub returns-clause-either : goal.returns-clause-either
returns-clause-either c = good_or_fault
