use Rattle.tab_rule.proofs.AnswerLemmas.{file_answer}
use Rattle.tab_rule.proofs.OneResultLemmas.{IsTableFaultOf-one, exact_one, exact_or_fault}
use Rattle.tab_rule.proofs.laws.files_have_one_answer.Goals as goal

-- every file is that of an exact table or has a fault
pub returns-clause-some : goal.returns-clause-some
returns-clause-some c = file_answer

-- no file is that of two exact tables
pub returns-clause-table : goal.returns-clause-table
returns-clause-table c = exact_one

-- no file has two faults, be they of the header or of an entry
pub returns-clause-fault : goal.returns-clause-fault
returns-clause-fault c = IsTableFaultOf-one

-- no file is that of an exact table and has a fault too
pub returns-clause-either : goal.returns-clause-either
returns-clause-either c = exact_or_fault
