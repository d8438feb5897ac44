use Rattle.tab_rule.proofs.StepLemmas.{tile_step}
use Rattle.tab_rule.proofs.laws.tile_steps_lead_to_a_near_entry.Goals as goal

-- a step that moves a tile of the pattern costs 1 and leads to an entry one move away
pub returns : goal.returns
returns c t is b good cell adjacent tile = tile_step t is b good cell adjacent tile
