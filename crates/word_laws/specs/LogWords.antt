-- What the words of a command that names a log ask for.
use Rattle.std.specs.Prelude.{◌≡◌, ℕ, Bool, List, [], ◌∷◌, ◌++◌, codes, false, true}
use Rattle.clap.specs.Walk.{Text}
use Rattle.pdb_request.specs.Asked.{Asked, LogArguments, solve}
use Rattle.puz_goal.specs.declared.goals.Goal.{Goal}
use Rattle.puz_goal.specs.declared.goals.Goal.TheVariants.{First, Last}
use Rattle.pdb_words.specs.Commands.{IsPlain}
use Rattle.pdb_words.specs.Faults.{IsMistaken}
use Rattle.pdb_words.specs.Numbers.{number_of}
use Rattle.word_laws.specs.Asking.{AreNames, AsksFor}
use Rattle.word_laws.specs.NumberTexts.{writes_workers}

-- the names of the text of a claim, the sets, a log, and one table or more
pub record LogNames : Type 0 where
  pub text : Text
  pub sets : Text
  pub log : Text
  pub table : Text
  pub more_tables : List Text
  pub are_names : AreNames (text ∷ sets ∷ log ∷ table ∷ more_tables)

-- the tables, in their order
abbrev pub tables_named : LogNames → List Text
tables_named names = names.table ∷ names.more_tables

-- all names
abbrev pub log_words : LogNames → List Text
log_words names = names.text ∷ names.sets ∷ names.log ∷ tables_named names

-- words with `--fold` before them, or without it
abbrev pub with_fold : Bool → List Text → List Text
with_fold true words = codes "--fold" ∷ words
with_fold false words = words

-- what is asked with the arguments of a check of a log
abbrev pub AsksOfLog : Type 0
AsksOfLog = LogArguments → Asked

-- the same, of the files of these names, of so many workers, with the tables folded or whole, and with the blank there at home
abbrev pub of_names_for : Goal → AsksOfLog → LogNames → ℕ → Bool → Asked
of_names_for goal asks names workers folds = asks (record {
  text = names.text;
  sets = names.sets;
  log = names.log;
  tables = tables_named names;
  workers = workers;
  fold = folds;
  goal = goal;
})

-- the same with the blank in the first cell
abbrev pub of_names : AsksOfLog → LogNames → ℕ → Bool → Asked
of_names asks names workers folds = of_names_for First asks names workers folds

-- a search that may expand so many boards, and that keeps its log under the name of the log
abbrev pub search_within : ℕ → AsksOfLog
search_within budget = λ given. solve (record {
  board = given.text;
  sets = given.sets;
  out = given.log;
  replace = false;
  tables = given.tables;
  workers = given.workers;
  fold = given.fold;
  goal = given.goal;
  budget = budget;
})

-- the command of this name, with the names of a text, the sets, a log and one table or more, asks for this: of one worker, or
-- of as many as `--workers` says, first or last; with folded tables where `--fold` comes first or last; and with the blank last where
-- `--goal last` comes first
pub record NamesLog (command : Text) (asks : AsksOfLog) : Type 0 where
  pub files : (names : LogNames) (folds : Bool)
      → AsksFor (command ∷ with_fold folds (log_words names)) (of_names asks names 1 folds)
  pub no_tables : (text sets log : Text) (folds : Bool) → IsPlain text → IsPlain sets → IsPlain log
      → IsMistaken (command ∷ with_fold folds (text ∷ sets ∷ log ∷ []))
  pub workers : (names : LogNames) (folds : Bool) (number : Text)
      → IsPlain number → writes_workers number ≡ true
      → AsksFor (command ∷ with_fold folds (codes "--workers" ∷ number ∷ log_words names))
      (of_names asks names (number_of number) folds)
  pub other_workers : (names : LogNames) (folds : Bool) (number : Text)
      → IsPlain number → writes_workers number ≡ false
      → IsMistaken (command ∷ with_fold folds (codes "--workers" ∷ number ∷ log_words names))
  pub workers_last : (names : LogNames) (folds : Bool) (number : Text)
      → IsPlain number → writes_workers number ≡ true
      → AsksFor (command ∷ with_fold folds (log_words names ++ codes "--workers" ∷ number ∷ []))
      (of_names asks names (number_of number) folds)
  pub other_workers_last : (names : LogNames) (folds : Bool) (number : Text)
      → IsPlain number → writes_workers number ≡ false
      → IsMistaken (command ∷ with_fold folds (log_words names ++ codes "--workers" ∷ number ∷ []))
  pub fold_last : (names : LogNames)
      → AsksFor (command ∷ log_words names ++ codes "--fold" ∷ []) (of_names asks names 1 true)
  pub goal_last : (names : LogNames) (folds : Bool)
      → AsksFor (command ∷ with_fold folds (codes "--goal" ∷ codes "last" ∷ log_words names)) (of_names_for Last asks names 1 folds)
  pub fold_twice : (words : List Text)
      → IsMistaken (command ∷ codes "--fold" ∷ codes "--fold" ∷ words)
