use Rattle.tab_rule.proofs.ExactLemmas.{files_exact}
use Rattle.tab_rule.proofs.laws.files_are_exact_by_rule.Goals as goal

-- each entry of a table keeps the local rule exactly where each is right
pub returns : goal.returns
returns c = files_exact
