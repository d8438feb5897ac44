use Rattle.pdb_run.specs.Answers.{all_bytes}
use Rattle.pdb_keep.proofs.make_table.run_make_table.Goals as goal

-- a run in which the name to keep was tried ends as the plan for a table says
pub returns-in-Ok-clause-ends : goal.returns-in-Ok-clause-ends
returns-in-Ok-clause-ends g c = c.keep_and_conclude.ensures.ends (all_bytes c.in-Ok._inputs.items) _ c.in-Ok.ensures.tried c.answer_make_table-answered.ensures
