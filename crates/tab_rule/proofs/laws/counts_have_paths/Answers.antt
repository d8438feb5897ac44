use Rattle.tab_rule.proofs.StepLemmas.{path_of_count}
use Rattle.tab_rule.proofs.laws.counts_have_paths.Goals as goal

-- where all entries keep the rule, a count is the cost of some path home
pub returns : goal.returns
returns c t is keeps b good e entry small = path_of_count t is b good keeps e entry small
