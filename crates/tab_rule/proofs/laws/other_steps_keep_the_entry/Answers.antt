use Rattle.tab_rule.proofs.StepLemmas.{other_step}
use Rattle.tab_rule.proofs.laws.other_steps_keep_the_entry.Goals as goal

-- a step that moves no tile of the pattern is free and keeps the board's entry
pub returns : goal.returns
returns c t is b good cell adjacent other = other_step t is b good cell adjacent other
