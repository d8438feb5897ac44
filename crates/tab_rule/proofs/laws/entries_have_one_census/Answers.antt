use Rattle.tab_rule.proofs.AnswerLemmas.{census_some}
use Rattle.tab_rule.proofs.OneResultLemmas.{IsCensusOf-one}
use Rattle.tab_rule.proofs.laws.entries_have_one_census.Goals as goal

-- all lists of entries have a census
pub returns-clause-some : goal.returns-clause-some
returns-clause-some c = census_some

-- no list of entries has two censuses
pub returns-clause-one : goal.returns-clause-one
returns-clause-one c = IsCensusOf-one
