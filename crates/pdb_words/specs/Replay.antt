-- The words of `replay [--goal first|last] [FILE]`.
use Rattle.std.specs.Prelude.{List, [], ◌∷◌, None, codes}
use Rattle.clap.specs.Walk.{Row, first_of}
use Rattle.clap.specs.Simple.{App, new_rule}
use Rattle.pdb_request.specs.Asked.{Asked, replay}
use Rattle.puz_goal.specs.declared.goals.Goal.TheVariants.{First}
use Rattle.pdb_words.specs.Goal.{goal_flag, goal_in}
use Rattle.pdb_words.specs.Rows.{command}

-- the command, as `clap` sees it
abbrev pub replay_command : App
replay_command = command (codes "replay") (goal_flag ∷ new_rule (codes "FILE") ∷ [])

-- what the values found of it ask for
abbrev pub replay_in : List Row → Asked
replay_in rows = replay (record { puzzle = first_of (codes "FILE") rows; goal = goal_in rows })

-- what no words ask for: `replay` on standard input
abbrev pub replay_input : Asked
replay_input = replay (record { puzzle = None; goal = First })
