-- What the words of `prove` ask for, and what is wrong with them.
use Rattle.std.proofs.Common.{◌≡◌, ◌∙◌, arith, inl, inr, refl, ℕ, Bool, false, true, List, [], ◌∷◌, ◌++◌, Option, Some, None, append-nil, codes, map}
use Rattle.std.specs.List.{AllByRecursion}
use Rattle.std.proofs.lemmas.List.Elements.{recursion_from_All}
use Rattle.clap.specs.Kinds.{Kinds, or_else}
use Rattle.clap.specs.Walk.{Text}
use Rattle.clap.specs.declared.error.kind.ErrorKind.TheVariants as kind
use Rattle.clap.proofs.OnLiterals.{clap_on_literals}
use Rattle.pdb_request.specs.Asked.{Asked, most_budget, prove}
use Rattle.puz_goal.specs.declared.goals.Goal.{Goal}
use Rattle.puz_goal.specs.declared.goals.Goal.TheVariants.{First, Last}
use Rattle.pdb_words.specs.CommandLine.{parse_faults}
use Rattle.pdb_words.specs.Commands.{IsCommand, IsPlain}
use Rattle.pdb_words.specs.Faults.{IsMistaken}
use Rattle.pdb_words.specs.Numbers.{number_of, number_written}
use Rattle.pdb_words.specs.Prove.{file_or_input}
use Rattle.pdb_words.proofs.CommandLemmas.{mistaken_parse, parse_faults_behind}
use Rattle.word_laws.proofs.WalkLemmas.{AsksIf, Comes, FitsTables, Word, asks_if, asks_when, budgets, flag, missing, numbered, plain, tables_come}
use Rattle.word_laws.proofs.WalkLemmas.{text_of, unless, workers}
use Rattle.word_laws.proofs.TextLemmas.{by_source, file_is, word_for, word_is}
use Rattle.word_laws.specs.Asking.{AsksFor, TextFrom, file, input, text_word}
use Rattle.word_laws.specs.LogWords.{with_fold}
use Rattle.word_laws.specs.NumberTexts.{writes_budget, writes_workers}
use Rattle.word_laws.specs.ProveWords.{ProveNames, asks_for_goal, asks_for_proofs, prove_words}

is_command : IsCommand (codes "prove")
is_command = inr (inr (inr (inr (inr (inr (inl refl))))))

-- what is read of a text that writes a budget
budget_read : (budget : Text) → writes_budget budget ≡ true → number_written 1 most_budget budget ≡ Some (number_of budget)
budget_read budget writes = rw writes refl

module _ (names : ProveNames) where
  all_plain : AllByRecursion IsPlain (names.sets ∷ names.table ∷ names.more_tables)
  all_plain = recursion_from_All IsPlain (names.sets ∷ names.table ∷ names.more_tables) names.are_names.0

  -- the word for the claims, and the names as far as the first table
  abbrev leading : TextFrom → List Word
  leading claims = word_for claims ∷ plain names.sets all_plain.0 ∷ plain names.table all_plain.1.0 ∷ []

  -- what is asked for, as it is read of the words
  abbrev read_as : Goal → TextFrom → ℕ → Bool → Option ℕ → Asked
  read_as goal claims workers folds budget = prove (record {
    claims = file_or_input (text_word claims);
    sets = names.sets;
    tables = names.table ∷ names.more_tables;
    workers = workers;
    fold = folds;
    budget = budget;
    goal = goal;
  })

  is_read : (goal : Goal) (workers : ℕ) (folds : Bool) (budget : Option ℕ)
      → read_as goal names.claims workers folds budget ≡ asks_for_goal goal names workers folds budget
  is_read goal workers folds budget = rw (file_is names.claims) refl

  abbrev Fits : List Word → List Word → (Kinds → Kinds) → Asked → TextFrom → Type 0
  Fits before behind kinds asked claims = FitsTables (codes "prove") 3 (leading claims) names.table names.more_tables before behind kinds asked

  all_come : (goal : Goal) (before behind : List Word) (kinds : Kinds → Kinds) (workers : ℕ) (folds : Bool) (budget : Option ℕ)
      → Fits before behind kinds (read_as goal names.claims workers folds budget) names.claims
      → Comes (codes "prove") (map text_of before ++ (prove_words names ++ map text_of behind)) (kinds []) (asks_for_goal goal names workers folds budget)
  all_come goal before behind kinds workers folds budget fits =
      let come = tables_come is_command 3 (leading names.claims) names.table names.more_tables all_plain.1.1
      (omega (arith, names.are_names.1)) before behind kinds
      (read_as goal names.claims workers folds budget) fits in
      rw (word_is names.claims, is_read goal workers folds budget) at come

  -- the same whether `--fold` comes first or not
  record FitsBoth (goal : Goal) (flags behind : List Word) (kinds : Kinds → Kinds) (workers : ℕ) (budget : Option ℕ) (claims : TextFrom) : Type 0 where
    whole : Fits flags behind kinds (read_as goal claims workers false budget) claims
    folded : Fits (flag (codes "--fold") ∷ flags) behind kinds (read_as goal claims workers true budget) claims

  module _ (goal : Goal) (flags behind : List Word) (kinds : Kinds → Kinds) (workers : ℕ) (budget : Option ℕ) where
    one_comes : (folds : Bool) → FitsBoth goal flags behind kinds workers budget names.claims
        → Comes (codes "prove") (with_fold folds (map text_of flags ++ (prove_words names ++ map text_of behind))) (kinds [])
        (asks_for_goal goal names workers folds budget)
    one_comes true fits = all_come goal (flag (codes "--fold") ∷ flags) behind kinds workers true budget fits.folded
    one_comes false fits = all_come goal flags behind kinds workers false budget fits.whole

    prove_comes : (folds : Bool) → ((name : Text) (is : IsPlain name) → FitsBoth goal flags behind kinds workers budget (file name is))
        × FitsBoth goal flags behind kinds workers budget input
        → Comes (codes "prove") (with_fold folds (map text_of flags ++ (prove_words names ++ map text_of behind))) (kinds [])
        (asks_for_goal goal names workers folds budget)
    prove_comes folds all = one_comes folds (by_source (FitsBoth goal flags behind kinds workers budget) all names.claims)

  -- no number
  pub plain_asked : (folds : Bool) → AsksFor (codes "prove" ∷ with_fold folds (prove_words names)) (asks_for_proofs names 1 folds None)
  unfolding clap_on_literals
  plain_asked folds = rw append-nil at (prove_comes First [] [] (λ tables. or_else tables []) 1 None folds (λ name is. assumption, assumption))

  -- the blank last at home
  pub goal_asked : (folds : Bool) → AsksFor (codes "prove" ∷ with_fold folds (codes "--goal" ∷ codes "last" ∷ prove_words names))
      (asks_for_goal Last names 1 folds None)
  unfolding clap_on_literals
  goal_asked folds = rw append-nil at (prove_comes Last (flag (codes "--goal") ∷ flag (codes "last") ∷ []) [] (λ tables. or_else tables []) 1 None folds
      (λ name is. assumption, assumption))

  module _ (number : Text) (is : IsPlain number) (folds : Bool) where
    -- workers before the names
    pub workers_first : AsksIf (writes_workers number) (codes "prove" ∷ with_fold folds (codes "--workers" ∷ number ∷ prove_words names))
        (asks_for_proofs names (number_of number) folds None)
    unfolding clap_on_literals
    workers_first =
        let kinds : Kinds → Bool → Kinds = λ tables taken. or_else (or_else (unless taken []) []) (or_else tables []) in
        asks_if workers number is (kinds []) (λ n. asks_for_proofs names n folds None)
        (rw append-nil at (prove_comes First (numbered (codes "--workers") number is) []
        (λ tables. kinds tables (workers.takes number)) (workers.reads number) None folds (λ name is. assumption, assumption))) refl refl

    -- workers behind them
    pub workers_last : AsksIf (writes_workers number) (codes "prove" ∷ with_fold folds (prove_words names ++ codes "--workers" ∷ number ∷ []))
        (asks_for_proofs names (number_of number) folds None)
    unfolding clap_on_literals
    workers_last =
        let kinds : Kinds → Bool → Kinds = λ tables taken. or_else (or_else (or_else tables []) []) (unless taken []) in
        asks_if workers number is (kinds []) (λ n. asks_for_proofs names n folds None) (prove_comes First [] (numbered (codes "--workers") number is)
        (λ tables. kinds tables (workers.takes number)) (workers.reads number) None folds (λ name is. assumption, assumption)) refl refl

  module _ (budget : Text) (is : IsPlain budget) (folds : Bool) where
    -- a budget before the names
    pub budget_first : AsksIf (writes_budget budget) (codes "prove" ∷ with_fold folds (codes "--budget" ∷ budget ∷ prove_words names))
        (asks_for_proofs names 1 folds (Some (number_of budget)))
    unfolding clap_on_literals
    budget_first =
        let kinds : Kinds → Bool → Kinds = λ tables taken. or_else (or_else (unless taken []) []) (or_else tables []) in
        asks_when (budgets.takes budget) (writes_budget budget) (number_written 1 most_budget budget) (Some (number_of budget))
        (budgets.taken budget is) (budget_read budget)
        (kinds []) (asks_for_proofs names 1 folds) (rw append-nil at (prove_comes First (numbered (codes "--budget") budget is) []
        (λ tables. kinds tables (budgets.takes budget)) 1 (number_written 1 most_budget budget) folds (λ name is. assumption, assumption))) refl refl

    -- a budget behind them
    pub budget_last : AsksIf (writes_budget budget) (codes "prove" ∷ with_fold folds (prove_words names ++ codes "--budget" ∷ budget ∷ []))
        (asks_for_proofs names 1 folds (Some (number_of budget)))
    unfolding clap_on_literals
    budget_last =
        let kinds : Kinds → Bool → Kinds = λ tables taken. or_else (or_else (or_else tables []) []) (unless taken []) in
        asks_when (budgets.takes budget) (writes_budget budget) (number_written 1 most_budget budget) (Some (number_of budget))
        (budgets.taken budget is) (budget_read budget)
        (kinds []) (asks_for_proofs names 1 folds) (prove_comes First [] (numbered (codes "--budget") budget is)
        (λ tables. kinds tables (budgets.takes budget)) 1 (number_written 1 most_budget budget) folds (λ name is. assumption, assumption)) refl refl

  -- both flags with a number
  pub both_asked : (folds : Bool) (number budget : Text) → IsPlain number → IsPlain budget → writes_workers number ≡ true → writes_budget budget ≡ true
      → AsksFor (codes "prove" ∷ with_fold folds (codes "--workers" ∷ number ∷ codes "--budget" ∷ budget ∷ prove_words names))
      (asks_for_proofs names (number_of number) folds (Some (number_of budget)))
  unfolding clap_on_literals
  both_asked folds number budget n b writes writes_budget =
      let kinds : Kinds → Bool → Bool → Kinds = λ tables one other. or_else (or_else (or_else (unless one []) (unless other [])) []) (or_else tables []) in
      let come = rw append-nil at (prove_comes First (numbered (codes "--workers") number n ++ numbered (codes "--budget") budget b) []
      (λ tables. kinds tables (workers.takes number) (budgets.takes budget)) (workers.reads number) (number_written 1 most_budget budget) folds
      (λ name is. assumption, assumption)) in (
        come.0 ∙ (λ i. kinds [] ((workers.taken number n ∙ writes) i) ((budgets.taken budget b ∙ writes_budget) i)),
        come.1 ∙ (λ i. asks_for_proofs names (workers.read number n writes i) folds (budget_read budget writes_budget i)),
      )

  -- `--fold` behind the names
  pub fold_asked : AsksFor (codes "prove" ∷ prove_words names ++ codes "--fold" ∷ []) (asks_for_proofs names 1 true None)
  unfolding clap_on_literals
  fold_asked =
      let kinds : Kinds → Kinds = λ tables. or_else (or_else (or_else (or_else tables []) []) []) [] in
      all_come First [] (flag (codes "--fold") ∷ []) kinds 1 true None
      (by_source (λ claims. Fits [] (flag (codes "--fold") ∷ []) kinds (read_as First claims 1 true None) claims) (λ name is. assumption, assumption) names.claims)

-- no table
pub tableless : (claims : TextFrom) (sets : Text) (folds : Bool) → IsPlain sets → IsMistaken (codes "prove" ∷ with_fold folds (text_word claims ∷ sets ∷ []))
unfolding clap_on_literals
tableless (file name is) sets true s = missing is_command (flag (codes "--fold") ∷ plain name is ∷ plain sets s ∷ []) refl
tableless (file name is) sets false s = missing is_command (plain name is ∷ plain sets s ∷ []) refl
tableless input sets true s = missing is_command (flag (codes "--fold") ∷ flag (codes "-") ∷ plain sets s ∷ []) refl
tableless input sets false s = missing is_command (flag (codes "-") ∷ plain sets s ∷ []) refl

folds_wrong : (words : List Text) → parse_faults (codes "prove" ∷ codes "--fold" ∷ codes "--fold" ∷ words) ≡ kind.ArgumentConflict ∷ []
unfolding clap_on_literals
folds_wrong words = parse_faults_behind (codes "prove") is_command (codes "--fold" ∷ codes "--fold" ∷ words)

-- `--fold` twice
pub folded_twice : (words : List Text) → IsMistaken (codes "prove" ∷ codes "--fold" ∷ codes "--fold" ∷ words)
folded_twice words = mistaken_parse _ kind.ArgumentConflict [] (folds_wrong words) (λ e. cc) (λ e. cc)
