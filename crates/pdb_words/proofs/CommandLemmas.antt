-- What the first word makes of all words.
use Rattle.std.proofs.Common.{◌≡◌, ◌≢◌, ◌⊎◌, ◌∙◌, arith, inl, inr, refl, sym, false, List, [], ◌∷◌, ◌++◌, Option, Some, codes}
use Rattle.std.specs.List.{find}
use Rattle.std.specs.Prelude.{IfOk, IfSome, Ok, Err, None, Result, unwrap_or}
use Rattle.clap.specs.Faults.{defaults_fault, level_fault, turn_fault, walk_fault}
use Rattle.clap.specs.Kinds.{FailsBy, HasKind, IsAmong, Kinds, or_else}
use Rattle.clap.specs.Simple.{Shape, built, label_of, names_of, subcommand_of, subcommand_rows_of}
use Rattle.clap.specs.Values.{kind_of}
use Rattle.clap.specs.Walk.{Names, Row, Text, Walk, answers_to, nothing_held, rows_after, walk_from, walked}
use Rattle.clap.proofs.FaultLemmas.{stopped_fault}
use Rattle.clap.proofs.OnLiterals.{clap_on_literals}
use Rattle.clap.proofs.WalkLemmas.{walk_stopped}
use Rattle.clap.specs.declared.parser.matches.ArgMatches.{ArgMatches}
use Rattle.clap.specs.declared.error.Error.{Error}
use Rattle.clap.specs.declared.error.kind.ErrorKind.{ErrorKind}
use Rattle.clap.specs.declared.error.kind.ErrorKind.TheVariants as kind
use Rattle.pdb_words.specs.CommandLine.{Parses, asked_by, asked_of, command_line, faults_of, value_faults_by, value_faults_in, parse_faults}
use Rattle.pdb_words.specs.Commands.{BeginsWithCommand, IsCommand, IsPlain, commands}
use Rattle.pdb_words.specs.Faults.{IsCauseOfWordFault, IsMistakeOrMemory, IsMistaken}
use Rattle.pdb_words.specs.declared.faults.WordFault.{WordFault}
use Rattle.pdb_words.specs.declared.faults.WordFault.TheVariants as fault
use Rattle.pdb_words.proofs.TextLemmas.{dashless, each_holds, named, same_text}

-- nothing is wrong with steps in a row only if nothing is with each
pub none_wrong : (a b : Kinds) → or_else a b ≡ [] → (a ≡ []) × (b ≡ [])
none_wrong a b none = grind arith

-- what is among the later of two is among both
pub among_later : (k : ErrorKind) (a b : Kinds) → IsAmong k b → IsAmong k (a ++ b)
among_later k [] b is = is
among_later k (other ∷ a) b is = inr (among_later k a b is)

-- a fault that is no wish for help or for the version
pub mistaken : (words : List Text) (k : ErrorKind) (ks : Kinds) → faults_of words ≡ k ∷ ks → k ≢ kind.DisplayHelp → k ≢ kind.DisplayVersion → IsMistaken words
mistaken words k ks is no_help no_version = record { kind = k; among = rw is (inl refl); no_help = no_help; no_version = no_version }

-- such a fault that `clap` finds
pub mistaken_parse : (words : List Text) (k : ErrorKind) (ks : Kinds) → parse_faults words ≡ k ∷ ks → k ≢ kind.DisplayHelp → k ≢ kind.DisplayVersion
    → IsMistaken words
mistaken_parse words k ks is no_help no_version =
    record { kind = k; among = among_later k _ (parse_faults words) (rw is (inl refl)); no_help = no_help; no_version = no_version }

none_in_both : (a b : Kinds) → a ++ b ≡ [] → b ≡ []
none_in_both [] b none = none
none_in_both (k ∷ a) b none = absurd (cc)

-- where nothing is wrong with words, `clap` finds nothing wrong
pub parse_right : (words : List Text) → Parses words → parse_faults words ≡ []
parse_right words parses = none_in_both _ (parse_faults words) parses

-- the program as `clap` builds it
abbrev pub top : Shape
top = (built command_line).top

-- the names of its commands
abbrev pub names : Names
names = names_of (built command_line)

-- the walk before the first word
abbrev pub start : Walk
start = walk_from nothing_held

-- what is wrong with the first word alone
abbrev pub turn : Text → Kinds
turn word = turn_fault top names start word

-- ---- a first word that is no subcommand's name

-- the same, if there were no subcommands
abbrev bare_turn : Text → Kinds
bare_turn word = turn_fault top [] start word

-- where no name is met, there might as well be none
same_turn : (s : Shape) (known : Names) (word : Text) → find (answers_to word) known ≡ None → turn_fault s known start word ≡ turn_fault s [] start word
same_turn s known word none = rw none refl

-- a word is a command's name, `help`, or neither
known_or_other : (word : Text) → IsCommand word ⊎ ((word ≡ codes "help") ⊎ (turn word ≡ bare_turn word))
known_or_other word = elim (named word (commands ++ codes "help" ∷ [])) [ inl known ↦ grind arith | inr none ↦ inr (inr (same_turn top names word none)) ]

plain_wrong : (word : Text) → IsPlain word → bare_turn word ≡ kind.UnknownArgument ∷ kind.InvalidSubcommand ∷ []
unfolding clap_on_literals
plain_wrong word plain = simp dashless

-- nothing is wrong with a word only if it is `--`, whether `clap` reads it as a long flag, as short flags or as none
bare_right : (word : Text) → bare_turn word ≡ [] → word ≡ codes "--"
unfolding clap_on_literals
bare_right word right = grind (arith, same_text word (codes "--"))

-- ---- so words that parse begin with a command

turn_right : (word : Text) (rest : List Text) → parse_faults (word ∷ rest) ≡ [] → turn word ≡ []
unfolding walk_fault
turn_right word rest parses = (none_wrong _ _ (none_wrong _ _ parses).0).0

-- behind a first `--` comes no word
by_dashes : (rest : List Text) → parse_faults (codes "--" ∷ rest) ≡ [] → rest ≡ []
unfolding clap_on_literals
by_dashes [] parses = refl
by_dashes (word ∷ rest) parses = cc

-- words that parse are none, `--` alone, or begin with a command's name
begins : (words : List Text) → parse_faults words ≡ [] → BeginsWithCommand words
unfolding clap_on_literals
begins [] parses = tt
begins (word ∷ rest) parses = elim (known_or_other word) [
  | inl command ↦ inl command
  | inr (inl help) ↦ let wrong = rw help at (turn_right word rest parses) in cc
  | inr (inr other) ↦
      let same = bare_right word (sym other ∙ turn_right word rest parses) in
      inr (same, by_dashes rest (rw same at parses))
]

-- words that parse are none, two dashes alone, or begin with the name of a command
pub begins_with_command : (words : List Text) → Parses words → BeginsWithCommand words
begins_with_command words parses = begins words (parse_right words parses)

-- ---- another first word is a mistake

-- a first word that is no flag, no command and not `help`
pub other_command : (first : Text) (rest : List Text) → IsPlain first → (IsCommand first → ⊥) → first ≢ codes "help" → IsMistaken (first ∷ rest)
unfolding walk_fault
other_command first rest plain no_command no_help = elim (known_or_other first) [
  | inl command ↦ absurd (no_command command)
  | inr (inl help) ↦ absurd (no_help help)
  | inr (inr other) ↦ mistaken_parse _ kind.UnknownArgument (kind.InvalidSubcommand ∷ []) (rw (other ∙ plain_wrong first plain)) (λ e. cc) (λ e. cc)
]

-- ---- a command's name leaves the words behind it to the command

-- the command of this name, as it is built
abbrev pub leaf : Text → Shape
leaf name = unwrap_or (find (λ s. answers_to name (label_of s)) (built command_line).subs) top

record IsEntered (name : Text) : Type 0 where
  passes : turn name ≡ []
  stops : walked top.rules names start name ≡ record start { stopped = Some (name, []) }
  found : find (λ s. answers_to name (label_of s)) (built command_line).subs ≡ Some (leaf name)
  label : (leaf name).name ≡ name

is_entered : (name : Text) → IsCommand name → IsEntered name
unfolding clap_on_literals
is_entered = each_holds IsEntered commands assumption

module _ (name : Text) (is : IsCommand name) (words : List Text) where
  -- what `clap` finds wrong with the words is what is wrong with those behind the name
  pub parse_faults_behind : parse_faults (name ∷ words) ≡ or_else (level_fault (leaf name) [] nothing_held words false []) []
  unfolding walk_fault defaults_fault
  parse_faults_behind =
      let e = is_entered name is in
      rw (e.passes, e.stops, stopped_fault top names start (name, []) words, ← walk_stopped top.rules names start name [] words, e.found)

  -- `clap` finds the command, with the rows of the words behind its name
  pub met : subcommand_of command_line (name ∷ words) ≡ Some (name, rows_after (leaf name).rules [] words)
  met = let e = is_entered name is in rw (e.stops, ← walk_stopped top.rules names start name [] words, e.found, e.label)

  -- so is what is wrong with them, and with a value in these rows
  pub faults_behind : faults_of (name ∷ words) ≡ value_faults_by name (rows_after (leaf name).rules [] words) ++ or_else
      (level_fault (leaf name) [] nothing_held words false []) []
  faults_behind = λ i. value_faults_in (met i) ++ parse_faults_behind i

  -- what is asked for is what these rows ask for
  pub asked_behind : asked_of (name ∷ words) ≡ asked_by name (rows_after (leaf name).rules [] words)
  asked_behind = rw met refl

-- ---- of words that parse `clap` finds a command of the program, or none

abbrev HasCommand : Option (Text × List Row) → Type 0
HasCommand found = IfSome found (λ p. IsCommand p.0)

command_met : (words : List Text) → BeginsWithCommand words → HasCommand (subcommand_of command_line words)
unfolding clap_on_literals
command_met [] begins = tt
command_met (word ∷ rest) (inl command) = rw (met word command rest) command
command_met (word ∷ rest) (inr dashes) = rw (dashes.0, dashes.1) tt

-- the matches of words have a command of the program, or none
pub command_found : (words : List Text) (r : Result ArgMatches Error) → FailsBy (parse_faults words) r
    → IfOk r (λ m. subcommand_rows_of m ≡ subcommand_of command_line words)
    → IfOk r (λ m. HasCommand (subcommand_rows_of m))
command_found words (Ok m) parses rows = rw rows (command_met words (begins words parses))
command_found words (Err e) fails rows = tt

-- ---- what gives cause for a fault

-- what `clap` found is among what is wrong
pub error_among : (words : List Text) (e : Error) (k : ErrorKind) → HasKind (parse_faults words) e → k ≡ kind_of e → k ≢ kind.OutOfMemory
    → IsAmong k (faults_of words)
error_among words e k (inl memory) is other = absurd (other (is ∙ memory))
error_among words e k (inr among) is other = among_later k _ (parse_faults words) (rw is among)

-- words that are mistaken give cause for a mistake, and any words for want of memory
pub mistake_cause : (words : List Text) (f : WordFault) → IsMistaken words → IsMistakeOrMemory f → IsCauseOfWordFault words f
mistake_cause words (fault.Mistake text) mistaken is = mistaken
mistake_cause words fault.Memory mistaken is = tt
mistake_cause words (fault.Help text) mistaken is = absurd is
mistake_cause words fault.Version mistaken is = absurd is

-- so does a value that is wrong
pub value_cause : (words : List Text) (rows : Option (Text × List Row)) (f : WordFault) → rows ≡ subcommand_of command_line words
    → value_faults_in rows ≡ kind.ValueValidation ∷ []
    → IsMistakeOrMemory f → IsCauseOfWordFault words f
value_cause words rows f found wrong is =
    mistake_cause words f (record { kind = kind.ValueValidation; among = rw (← found, wrong) (inl refl); no_help = λ e. cc; no_version = λ e. cc }) is
