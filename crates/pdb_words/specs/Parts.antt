-- The words of `parts [--goal first|last] BOARD N K ANSWERS..`.
use Rattle.std.specs.Prelude.{◌%◌, ◌==◌, ℕ, List, [], ◌∷◌, codes, if◌then◌else◌, pos}
use Rattle.clap.specs.Walk.{Row, Rule}
use Rattle.clap.specs.Simple.{App}
use Rattle.clap.specs.Kinds.{Kinds}
use Rattle.clap.specs.declared.builder.value_parser.ValueParser.TheVariants as parser
use Rattle.clap.specs.declared.error.kind.ErrorKind.TheVariants.{ValueValidation}
use Rattle.pdb_request.specs.Asked.{Asked, most_parts, parts}
use Rattle.pdb_words.specs.Files.{file_in, files_in}
use Rattle.pdb_words.specs.Goal.{goal_flag, goal_in}
use Rattle.pdb_words.specs.Numbers.{number_in}
use Rattle.pdb_words.specs.Prove.{file_or_input}
use Rattle.pdb_words.specs.Rows.{command, needed_file, needed_files, needed_number}

-- the bound, a number from 0 to 255, which has to be given
abbrev pub needed_bound : Rule
needed_bound = needed_number (codes "N") (parser.Signed (pos 0) (pos 255))

-- how many parts it has, a number from 1 to 65,535, which has to be given
abbrev pub needed_count : Rule
needed_count = needed_number (codes "K") (parser.Signed (pos 1) (pos most_parts))

-- the command, as `clap` sees it
abbrev pub parts_command : App
parts_command = command (codes "parts") (needed_file (codes "BOARD") ∷ goal_flag ∷ needed_bound ∷ needed_count ∷ needed_files (codes "ANSWERS") ∷ [])

-- the bound that the values found of it name
abbrev pub bound_in : List Row → ℕ
bound_in rows = number_in 0 255 0 (codes "N") rows

-- how many parts they name
abbrev pub count_in : List Row → ℕ
count_in rows = number_in 1 most_parts 1 (codes "K") rows

-- what is wrong with them: nothing, or that the count of parts isn't odd
abbrev pub count_faults : List Row → Kinds
count_faults rows = if count_in rows % 2 == 1 then [] else ValueValidation ∷ []

-- what the values found of it ask for
abbrev pub parts_in : List Row → Asked
parts_in rows = parts (record {
  board = file_or_input (file_in (codes "BOARD") rows);
  bound = bound_in rows;
  count = count_in rows;
  answers = files_in (codes "ANSWERS") rows;
  goal = goal_in rows;
})
