use Rattle.log_check.proofs.AnswerLemmas.{fault_answered, form_answered, good_answered}
use Rattle.log_check.proofs.logs.check_log.Goals as goal

-- the bound of a good log's file is answered, unless memory for the check is wanting
pub returns-clause-good : goal.returns-clause-good
returns-clause-good g c = good_answered c.args.bundle.now c.args.board.now c.args.file.now c.check_log_by.result c.check_log_by.ensures.ok
    c.check_log_by.ensures.fault

-- a file that is no log's is refused for its fault of form
pub returns-clause-form : goal.returns-clause-form
returns-clause-form g c = form_answered c.args.bundle.now c.args.board.now c.args.file.now c.check_log_by.result c.check_log_by.ensures.ok
    c.check_log_by.ensures.fault

-- a file with a fault is refused for it, unless memory for the check is wanting
pub returns-clause-refused : goal.returns-clause-refused
returns-clause-refused g c = fault_answered c.args.bundle.now c.args.board.now c.args.file.now c.check_log_by.result c.check_log_by.ensures.ok
    c.check_log_by.ensures.fault
