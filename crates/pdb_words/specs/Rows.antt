-- What commands take, as `clap` sees it: a rule for each word and flag.
use Rattle.std.specs.Prelude.{List, [], ◌∷◌, Some, true}
use Rattle.clap.specs.Lexer.{usize_max}
use Rattle.clap.specs.Walk.{Rule, Text}
use Rattle.clap.specs.Simple.{App, new_rule, new_shape}
use Rattle.clap.specs.declared.builder.action.ArgAction.TheVariants.{SetTrue}
use Rattle.clap.specs.declared.builder.value_parser.ValueParser.{ValueParser}

-- one word, which has to be there, as the name of a file
abbrev pub needed_file : Text → Rule
needed_file id = record (new_rule id) { required = true }

-- one word or more
abbrev pub needed_files : Text → Rule
needed_files id = record (needed_file id) { range = Some (record { start_inclusive = 1; end_inclusive = usize_max }) }

-- a number that the parser takes, which has to be there
abbrev pub needed_number : Text → ValueParser → Rule
needed_number id parser = record (needed_file id) { parser = Some parser }

-- the flag `--NAME`
abbrev pub flag : Text → Rule
flag name = record (new_rule name) { long = Some name; action = Some SetTrue }

-- the flag `--NAME N`: a number that the parser takes
abbrev pub number_flag : Text → ValueParser → Rule
number_flag name parser = record (new_rule name) { long = Some name; value_names = 1; parser = Some parser }

-- the same, and without the flag the usual number
abbrev pub usual_number_flag : Text → ValueParser → Text → Rule
usual_number_flag name parser usual = record (number_flag name parser) { defaults = usual ∷ [] }

-- the flag `--NAME WORD`, and without the flag the usual word
abbrev pub word_flag : Text → Text → Rule
word_flag name usual = record (new_rule name) { long = Some name; value_names = 1; defaults = usual ∷ [] }

-- the command of this name that takes these
abbrev pub command : Text → List Rule → App
command name rules = record { top = record (new_shape name) { rules = rules }; subs = [] }
