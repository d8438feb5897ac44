use Rattle.tab_check.proofs.AnswerLemmas.{bad_answered, exact_answered, head_answered}
use Rattle.tab_check.proofs.tables.check_table.Goals as goal

-- the table of an exact file is answered, unless memory for the check is wanting
pub returns-clause-exact : goal.returns-clause-exact
returns-clause-exact g c = exact_answered c.args.file.now c.check_table_by.result c.check_table_by.ensures.ok c.check_table_by.ensures.fault

-- a fault of the header is answered
pub returns-clause-head : goal.returns-clause-head
returns-clause-head g c = head_answered c.args.file.now c.check_table_by.result c.check_table_by.ensures.ok c.check_table_by.ensures.fault

-- the least bad entry is answered, unless memory for the check is wanting
pub returns-clause-bad : goal.returns-clause-bad
returns-clause-bad g c = bad_answered c.args.file.now c.check_table_by.result c.check_table_by.ensures.ok c.check_table_by.ensures.fault
