use Rattle.log_file.proofs.FileLemmas.{fault_named, log_viewed}
use Rattle.log_file.proofs.views.LogView.read.Goals as goal

-- a log's file is viewed as that log, unless memory is wanting
pub returns-clause-viewed : goal.returns-clause-viewed
returns-clause-viewed c = log_viewed c.args.file.now c.read_log.result c.read_log.ensures.ok c.read_log.ensures.fault

-- a file with a fault of form is refused for that fault
pub returns-clause-exact : goal.returns-clause-exact
returns-clause-exact c = fault_named c.args.file.now c.read_log.result c.read_log.ensures.ok c.read_log.ensures.fault c.read_log.ensures.memory
