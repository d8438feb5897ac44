-- What the rows of a command are for `clap`.
use Rattle.std.specs.Prelude.{List, map}
use Rattle.clap.specs.Walk.{Rule, Text}
use Rattle.clap.specs.Simple.{App, new_rule}
use Rattle.pdb_words.specs.Rows.{command, flag, needed_file, needed_files, needed_number, number_flag, usual_number_flag, word_flag}
use Rattle.pdb_words.specs.declared.rows.Kind.{Kind}
use Rattle.pdb_words.specs.declared.rows.Kind.TheVariants as kind
use Rattle.pdb_words.specs.declared.rows.Row.{Row}

-- the rule of a row of this kind and name
abbrev pub rule_by : Kind → Text → Rule
rule_by kind.OptionalWord id = new_rule id
rule_by kind.Word id = needed_file id
rule_by kind.Words id = needed_files id
rule_by (kind.Number parser) id = needed_number id parser
rule_by kind.Flag id = flag id
rule_by (kind.NumberFlag parser) id = number_flag id parser
rule_by (kind.UsualNumberFlag parser usual) id = usual_number_flag id parser usual.now
rule_by (kind.WordFlag usual value) id = word_flag id usual.now

-- the rule of a row
abbrev pub rule_of_row : Row → Rule
rule_of_row row = rule_by row.kind row.id.now

-- the command of this name with such rows
abbrev pub command_of : Text → List Row → App
command_of name rows = command name (map rule_of_row rows)
