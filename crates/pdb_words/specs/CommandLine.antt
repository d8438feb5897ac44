-- The words of the command line, and what they ask for.
use Rattle.std.specs.Prelude.{◌≡◌, List, [], ◌∷◌, ◌++◌, Option, Some, None, codes, if◌then◌else◌, fold, true}
use Rattle.std.specs.Str.{bytes_eq}
use Rattle.clap.specs.Walk.{Row, Text}
use Rattle.clap.specs.Simple.{App, new_app, on_top, subcommand_of, with_subcommand}
use Rattle.clap.specs.Faults.{fault_of}
use Rattle.clap.specs.Kinds.{Kinds, or_else}
use Rattle.pdb_request.specs.Asked.{Asked}
use Rattle.pdb_request.specs.declared.requests.LogClaim.TheVariants.{Bound, Optimum}
use Rattle.pdb_words.specs.Goal.{goal_faults}
use Rattle.pdb_words.specs.LogChecks.{check_command, check_in}
use Rattle.pdb_words.specs.MakeTable.{make_table_command, make_table_in, mask_faults}
use Rattle.pdb_words.specs.Parts.{count_faults, parts_command, parts_in}
use Rattle.pdb_words.specs.Prove.{prove_command, prove_in}
use Rattle.pdb_words.specs.Replay.{replay_command, replay_in, replay_input}
use Rattle.pdb_words.specs.Solve.{solve_command, solve_in}
use Rattle.pdb_words.specs.Table.{table_command, table_in}

-- the program without its commands, over words that leave out its own name, as `clap` sees it
abbrev pub program : App
program = on_top (λ s. record s { no_binary_name = true; has_version = true }) (new_app (codes "pdb_cli"))

-- the program with one more command
abbrev pub with_command : App → App → App
with_command above app = with_subcommand above app.top

-- the program with the commands that only check
abbrev pub checks : App
checks = fold with_command program (replay_command ∷ table_command ∷ check_command Bound ∷ check_command Optimum ∷ [])

-- the program with all its commands
abbrev pub command_line : App
command_line = fold with_command checks (make_table_command ∷ solve_command ∷ prove_command ∷ parts_command ∷ [])

-- ---- what words ask for

-- what the values found of the command of this name ask for
abbrev pub asked_by : Text → List Row → Asked
asked_by name rows = if bytes_eq name (codes "replay") then replay_in rows
    else if bytes_eq name (codes "table") then table_in rows
    else if bytes_eq name (codes "bound") then check_in Bound rows
    else if bytes_eq name (codes "optimal") then check_in Optimum rows
    else if bytes_eq name (codes "make-table") then make_table_in rows
    else if bytes_eq name (codes "solve") then solve_in rows
    else if bytes_eq name (codes "prove") then prove_in rows
    else if bytes_eq name (codes "parts") then parts_in rows
    else replay_input

-- without a command it is `replay` on standard input
abbrev pub asked_in : Option (Text × List Row) → Asked
asked_in None = replay_input
asked_in (Some found) = asked_by found.0 found.1

-- what words that parse ask for
abbrev pub asked_of : List Text → Asked
asked_of words = asked_in (subcommand_of command_line words)

-- ---- which words ask for anything

-- what `clap` finds wrong with the words; a wish for help or for the version counts too
abbrev pub parse_faults : List Text → Kinds
parse_faults words = fault_of command_line words

-- what is wrong with a value that only the command of this name has: `make-table` may have a mask that is none, and `parts` a count
-- of parts that isn't odd
abbrev pub own_faults : Text → List Row → Kinds
own_faults name rows = if bytes_eq name (codes "make-table") then mask_faults rows
    else if bytes_eq name (codes "parts") then count_faults rows else []

-- what is wrong with a value among those found of it: first the word for a goal, which may be none
abbrev pub value_faults_by : Text → List Row → Kinds
value_faults_by name rows = or_else (goal_faults rows) (own_faults name rows)

-- the same, or nothing without a command
abbrev pub value_faults_in : Option (Text × List Row) → Kinds
value_faults_in None = []
value_faults_in (Some found) = value_faults_by found.0 found.1

-- what is wrong with the words: nothing, where they parse
abbrev pub faults_of : List Text → Kinds
faults_of words = value_faults_in (subcommand_of command_line words) ++ parse_faults words

-- nothing is wrong with the words, and they ask neither for help nor for the version
abbrev pub Parses : List Text → Type 0
Parses words = faults_of words ≡ []
