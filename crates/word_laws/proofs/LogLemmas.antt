-- What the words of `bound`, `optimal` and `solve` ask for, and what is wrong with them.
use Rattle.std.proofs.Common.{◌≡◌, ◌∙◌, arith, inl, inr, refl, Bool, false, true, List, [], ◌∷◌, ◌++◌, append-nil, codes, map}
use Rattle.std.specs.List.{AllByRecursion}
use Rattle.std.proofs.lemmas.List.Elements.{recursion_from_All}
use Rattle.clap.specs.Kinds.{Kinds, or_else}
use Rattle.clap.specs.Walk.{Text}
use Rattle.clap.specs.declared.error.kind.ErrorKind.TheVariants as kind
use Rattle.clap.proofs.OnLiterals.{clap_on_literals}
use Rattle.pdb_request.specs.Asked.{Asked, bound, optimal}
use Rattle.puz_goal.specs.declared.goals.Goal.TheVariants.{Last}
use Rattle.pdb_words.specs.Budget.{usual_budget}
use Rattle.pdb_words.specs.CommandLine.{parse_faults}
use Rattle.pdb_words.specs.Commands.{IsCommand, IsPlain}
use Rattle.pdb_words.specs.Faults.{IsMistaken}
use Rattle.pdb_words.specs.Numbers.{number_of}
use Rattle.pdb_words.proofs.CommandLemmas.{mistaken_parse, parse_faults_behind}
use Rattle.word_laws.proofs.WalkLemmas.{AsksIf, Comes, FitsTables, Word, asks_if, budgets, flag, missing, numbered, plain, tables_come, text_of}
use Rattle.word_laws.proofs.WalkLemmas.{unless, workers}
use Rattle.word_laws.specs.Asking.{AsksFor}
use Rattle.word_laws.specs.LogWords.{AsksOfLog, LogNames, NamesLog, log_words, of_names, of_names_for, search_within, with_fold}
use Rattle.word_laws.specs.NumberTexts.{writes_budget, writes_workers}

-- a command that names a log
pub data LogCommand : Type 0 where
  on_board on_puzzle on_search : LogCommand

by_command : (P : LogCommand → Type 0) → P on_board × P on_puzzle × P on_search → (command : LogCommand) → P command
by_command P all on_board = all.0
by_command P all on_puzzle = all.1
by_command P all on_search = all.2

-- its word
abbrev pub name_of : LogCommand → Text
name_of on_board = codes "bound"
name_of on_puzzle = codes "optimal"
name_of on_search = codes "solve"

is_command : (command : LogCommand) → IsCommand (name_of command)
is_command = by_command (λ command. IsCommand (name_of command)) (inr (inr (inl refl)), inr (inr (inr (inl refl))), inr (inr (inr (inr (inr (inl refl))))))

-- what it asks for, with the usual budget
abbrev pub asks : LogCommand → AsksOfLog
asks on_board = bound
asks on_puzzle = optimal
asks on_search = search_within usual_budget

module _ (names : LogNames) where
  all_plain : AllByRecursion IsPlain (log_words names)
  all_plain = recursion_from_All IsPlain (log_words names) names.are_names.0

  -- the names as far as the first table
  abbrev leading : List Word
  leading = plain names.text all_plain.0 ∷ plain names.sets all_plain.1.0 ∷ plain names.log all_plain.1.1.0 ∷ plain names.table all_plain.1.1.1.0 ∷ []

  -- as far as that, and as far as all tables, the walk of a command fits
  abbrev Fits : LogCommand → List Word → List Word → (Kinds → Kinds) → Asked → Type 0
  Fits command before behind kinds asked = FitsTables (name_of command) 4 leading names.table names.more_tables before behind kinds asked

  all_come : (command : LogCommand) (before behind : List Word) (kinds : Kinds → Kinds) (asked : Asked) → Fits command before behind kinds asked
      → Comes (name_of command) (map text_of before ++ (log_words names ++ map text_of behind)) (kinds []) asked
  all_come command before behind kinds asked fits =
      tables_come (is_command command) 4 leading names.table names.more_tables all_plain.1.1.1.1
      (omega (arith, names.are_names.1)) before behind kinds asked fits

  -- the same whether `--fold` comes first or not
  record FitsBoth (flags behind : List Word) (kinds : Kinds → Kinds) (asked : LogCommand → Bool → Asked) (command : LogCommand) : Type 0 where
    whole : Fits command flags behind kinds (asked command false)
    folded : Fits command (flag (codes "--fold") ∷ flags) behind kinds (asked command true)

  module _ (flags behind : List Word) (kinds : Kinds → Kinds) (asked : LogCommand → Bool → Asked) where
    abbrev AllCome : LogCommand → Bool → Type 0
    AllCome command folds = Comes (name_of command) (with_fold folds (map text_of flags ++ (log_words names ++ map text_of behind))) (kinds [])
        (asked command folds)

    log_comes : (command : LogCommand) (folds : Bool) → FitsBoth flags behind kinds asked command → AllCome command folds
    log_comes command true fits = all_come command (flag (codes "--fold") ∷ flags) behind kinds (asked command true) fits.folded
    log_comes command false fits = all_come command flags behind kinds (asked command false) fits.whole

    each_comes : (command : LogCommand) (folds : Bool) → FitsBoth flags behind kinds asked on_board × FitsBoth flags behind kinds asked on_puzzle
        × FitsBoth flags behind kinds asked on_search
        → AllCome command folds
    each_comes command folds all = log_comes command folds (by_command (FitsBoth flags behind kinds asked) all command)

  plain_asked : (command : LogCommand) (folds : Bool) → AsksFor (name_of command ∷ with_fold folds (log_words names)) (of_names (asks command) names 1 folds)
  unfolding clap_on_literals
  plain_asked command folds = rw append-nil at (each_comes [] [] (λ tables. or_else tables []) (λ c f. of_names (asks c) names 1 f) command folds assumption)

  goal_asked : (command : LogCommand) (folds : Bool)
      → AsksFor (name_of command ∷ with_fold folds (codes "--goal" ∷ codes "last" ∷ log_words names)) (of_names_for Last (asks command) names 1 folds)
  unfolding clap_on_literals
  goal_asked command folds = rw append-nil at (each_comes (flag (codes "--goal") ∷ flag (codes "last") ∷ []) [] (λ tables. or_else tables [])
      (λ c f. of_names_for Last (asks c) names 1 f) command folds assumption)

  module _ (number : Text) (is : IsPlain number) where
    workers_first : (command : LogCommand) (folds : Bool)
        → AsksIf (writes_workers number) (name_of command ∷ with_fold folds (codes "--workers" ∷ number ∷ log_words names))
        (of_names (asks command) names (number_of number) folds)
    unfolding clap_on_literals
    workers_first command folds =
        let kinds : Kinds → Bool → Kinds = λ tables taken. or_else (or_else (unless taken []) []) (or_else tables []) in
        asks_if workers number is (kinds []) (λ n. of_names (asks command) names n folds)
        (rw append-nil at (each_comes (numbered (codes "--workers") number is) []
        (λ tables. kinds tables (workers.takes number)) (λ c f. of_names (asks c) names (workers.reads number) f) command folds assumption)) refl refl

    workers_last : (command : LogCommand) (folds : Bool)
        → AsksIf (writes_workers number) (name_of command ∷ with_fold folds (log_words names ++ codes "--workers" ∷ number ∷ []))
        (of_names (asks command) names (number_of number) folds)
    unfolding clap_on_literals
    workers_last command folds =
        let kinds : Kinds → Bool → Kinds = λ tables taken. or_else (or_else (or_else tables []) []) (unless taken []) in
        asks_if workers number is (kinds []) (λ n. of_names (asks command) names n folds) (each_comes [] (numbered (codes "--workers") number is)
        (λ tables. kinds tables (workers.takes number)) (λ c f. of_names (asks c) names (workers.reads number) f) command folds assumption) refl refl

  module _ (budget : Text) (is : IsPlain budget) (folds : Bool) where
    -- a budget before the names
    pub budget_first : AsksIf (writes_budget budget) (codes "solve" ∷ with_fold folds (codes "--budget" ∷ budget ∷ log_words names))
        (of_names (search_within (number_of budget)) names 1 folds)
    unfolding clap_on_literals
    budget_first =
        let kinds : Kinds → Bool → Kinds = λ tables taken. or_else (or_else (unless taken []) []) (or_else tables []) in
        asks_if budgets budget is (kinds []) (λ n. of_names (search_within n) names 1 folds)
        (rw append-nil at (log_comes (numbered (codes "--budget") budget is) []
        (λ tables. kinds tables (budgets.takes budget)) (λ c f. of_names (search_within (budgets.reads budget)) names 1 f) on_search folds
        assumption)) refl refl

    -- a budget behind them
    pub budget_last : AsksIf (writes_budget budget) (codes "solve" ∷ with_fold folds (log_words names ++ codes "--budget" ∷ budget ∷ []))
        (of_names (search_within (number_of budget)) names 1 folds)
    unfolding clap_on_literals
    budget_last =
        let kinds : Kinds → Bool → Kinds = λ tables taken. or_else (or_else (or_else tables []) []) (unless taken []) in
        asks_if budgets budget is (kinds []) (λ n. of_names (search_within n) names 1 folds) (log_comes [] (numbered (codes "--budget") budget is)
        (λ tables. kinds tables (budgets.takes budget)) (λ c f. of_names (search_within (budgets.reads budget)) names 1 f) on_search folds assumption) refl refl

  -- both flags with a number
  pub both_asked : (folds : Bool) (number budget : Text) → IsPlain number → IsPlain budget → writes_workers number ≡ true → writes_budget budget ≡ true
      → AsksFor (codes "solve" ∷ with_fold folds (codes "--workers" ∷ number ∷ codes "--budget" ∷ budget ∷ log_words names))
      (of_names (search_within (number_of budget)) names (number_of number) folds)
  unfolding clap_on_literals
  both_asked folds number budget n b writes writes_budget =
      let kinds : Kinds → Bool → Bool → Kinds = λ tables one other. or_else (or_else (or_else (unless one []) (unless other [])) []) (or_else tables []) in
      let come = rw append-nil at (log_comes (numbered (codes "--workers") number n ++ numbered (codes "--budget") budget b) []
      (λ tables. kinds tables (workers.takes number) (budgets.takes budget))
      (λ c f. of_names (search_within (budgets.reads budget)) names (workers.reads number) f) on_search folds assumption) in (
        come.0 ∙ (λ i. kinds [] ((workers.taken number n ∙ writes) i) ((budgets.taken budget b ∙ writes_budget) i)),
        come.1 ∙ (λ i. of_names (search_within (budgets.read budget b writes_budget i)) names (workers.read number n writes i) folds),
      )

  fold_asked : (command : LogCommand) → AsksFor (name_of command ∷ log_words names ++ codes "--fold" ∷ []) (of_names (asks command) names 1 true)
  unfolding clap_on_literals
  fold_asked command =
      let kinds : Kinds → Kinds = λ tables. or_else (or_else (or_else (or_else tables []) []) []) [] in
      all_come command [] (flag (codes "--fold") ∷ []) kinds (of_names (asks command) names 1 true)
      (by_command (λ c. Fits c [] (flag (codes "--fold") ∷ []) kinds (of_names (asks c) names 1 true)) (assumption) command)

-- no table
tableless : (command : LogCommand) (folds : Bool) (text sets log : Text) → IsPlain text → IsPlain sets → IsPlain log
    → IsMistaken (name_of command ∷ with_fold folds (text ∷ sets ∷ log ∷ []))
unfolding clap_on_literals
tableless on_search true text sets log t s l = missing (is_command on_search) (flag (codes "--fold") ∷ plain text t ∷ plain sets s ∷ plain log l ∷ []) refl
tableless command true text sets log t s l = missing (is_command command) (flag (codes "--fold") ∷ plain text t ∷ plain sets s ∷ plain log l ∷ []) refl
tableless on_search false text sets log t s l = missing (is_command on_search) (plain text t ∷ plain sets s ∷ plain log l ∷ []) refl
tableless command false text sets log t s l = missing (is_command command) (plain text t ∷ plain sets s ∷ plain log l ∷ []) refl

-- `--fold` twice
folded_twice : (command : LogCommand) (words : List Text) → parse_faults (name_of command ∷ codes "--fold" ∷ codes "--fold" ∷ words) ≡ kind.ArgumentConflict ∷ []
unfolding clap_on_literals
folded_twice on_search words = parse_faults_behind (codes "solve") (is_command on_search) (codes "--fold" ∷ codes "--fold" ∷ words)
folded_twice command words = parse_faults_behind (name_of command) (is_command command) (codes "--fold" ∷ codes "--fold" ∷ words)

-- what these commands share
pub names_log : (command : LogCommand) → NamesLog (name_of command) (asks command)
names_log command = record {
  files = λ names folds. plain_asked names command folds;
  no_tables = λ text sets log folds. tableless command folds text sets log;
  workers = λ names folds number n. (workers_first names number n command folds).0;
  other_workers = λ names folds number n. (workers_first names number n command folds).1;
  workers_last = λ names folds number n. (workers_last names number n command folds).0;
  other_workers_last = λ names folds number n. (workers_last names number n command folds).1;
  fold_last = λ names. fold_asked names command;
  goal_last = λ names folds. goal_asked names command folds;
  fold_twice = λ words. mistaken_parse _ kind.ArgumentConflict [] (folded_twice command words) (λ e. cc) (λ e. cc);
}

-- the words of `bound`
pub board_names : NamesLog (codes "bound") bound
board_names = names_log on_board

-- the words of `optimal`
pub puzzle_names : NamesLog (codes "optimal") optimal
puzzle_names = names_log on_puzzle
