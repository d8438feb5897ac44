use Rattle.pdb_run.specs.Answers.{all_bytes}
use Rattle.pdb_keep.proofs.MakerLemmas.{search_answered}
use Rattle.pdb_keep.proofs.solve.run_solve.Goals as goal

-- a run that read its inputs and tried the name to keep ends as the plan for a search says
pub returns-clause-ends : goal.returns-clause-ends
returns-clause-ends g c =
    let read = c.with_bytes-read in
    let says = search_answered _ read.result c.answer_search-answered.result.answer read.ensures.inputs c.answer_search-answered.ensures in
    c.keep_and_conclude.ensures.ends (all_bytes c.in-Ok.inputs.items) _ c.in-Ok.ensures.tried (rw (read.ensures.fold, read.ensures.budget, read.ensures.goal) at says)
