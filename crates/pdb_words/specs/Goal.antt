-- The flag `--goal first|last`: where the blank is at home, and without it in the first cell.
use Rattle.std.specs.Prelude.{List, [], ◌∷◌, Option, Some, None, codes, if◌then◌else◌, is_some, option_and_then, unwrap_or}
use Rattle.std.specs.Str.{bytes_eq}
use Rattle.clap.specs.Kinds.{Kinds}
use Rattle.clap.specs.Walk.{Row, Rule, Text, first_of}
use Rattle.clap.specs.declared.error.kind.ErrorKind.TheVariants.{ValueValidation}
use Rattle.puz_goal.specs.declared.goals.Goal.{Goal}
use Rattle.puz_goal.specs.declared.goals.Goal.TheVariants.{First, Last}
use Rattle.pdb_words.specs.Rows.{word_flag}

-- the flag, for `clap` with any word
abbrev pub goal_flag : Rule
goal_flag = word_flag (codes "goal") (codes "first")

-- the goal that a word writes
abbrev pub goal_written : Text → Option Goal
goal_written word = if bytes_eq word (codes "first") then Some First else if bytes_eq word (codes "last") then Some Last else None

-- the goal that the values found of a command ask for
abbrev pub goal_in : List Row → Goal
goal_in rows = unwrap_or (option_and_then goal_written (first_of (codes "goal") rows)) First

-- what is wrong with a word for it: nothing, or that it writes none
abbrev pub word_faults : Option Text → Kinds
word_faults None = []
word_faults (Some word) = if is_some (goal_written word) then [] else ValueValidation ∷ []

-- what is wrong with that which was found of a command
abbrev pub goal_faults : List Row → Kinds
goal_faults rows = word_faults (first_of (codes "goal") rows)
