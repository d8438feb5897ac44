use Rattle.std.proofs.Common.{◌∙◌}
use Rattle.tab_file.proofs.FileLemmas.{IfErr-first, IfOk-table, table_of_file-file}
use Rattle.tab_file.proofs.views.view.Goals as goal

-- bytes that are viewed are the file of the table that is seen
pub returns-clause-ok : goal.returns-clause-ok
returns-clause-ok c = IfOk-table c.args.file.now c.read_table.result c.read_table.ensures

-- the file of a table is viewed as that table and no other
pub returns-clause-viewed : goal.returns-clause-viewed
returns-clause-viewed c table good = c.read_table.ensures ∙ table_of_file-file table c.args.file.now good

-- the fault for which bytes aren't viewed is their first one
pub returns-clause-fault : goal.returns-clause-fault
returns-clause-fault c = IfErr-first c.args.file.now c.read_table.result c.read_table.ensures
