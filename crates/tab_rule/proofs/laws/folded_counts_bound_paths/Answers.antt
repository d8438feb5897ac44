use Rattle.tab_rule.proofs.FoldLemmas.{folded_bound}
use Rattle.tab_rule.proofs.laws.folded_counts_bound_paths.Goals as goal

-- where a path leads a board home, the folded table tells of it a count of at most the path's cost
pub returns : goal.returns
returns c tiles b board count is path leads = folded_bound tiles b board count is path leads
