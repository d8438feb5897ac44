-- What the words of `prove` ask for.
use Rattle.std.specs.Prelude.{ℕ, Bool, List, ◌∷◌, Option}
use Rattle.clap.specs.Walk.{Text}
use Rattle.puz_goal.specs.declared.goals.Goal.{Goal}
use Rattle.puz_goal.specs.declared.goals.Goal.TheVariants.{First}
use Rattle.pdb_request.specs.Asked.{Asked, prove}
use Rattle.word_laws.specs.Asking.{AreNames, TextFrom, text_file, text_word}

-- where the claims come from, and the names of the sets, and one table or more
pub record ProveNames : Type 0 where
  pub claims : TextFrom
  pub sets : Text
  pub table : Text
  pub more_tables : List Text
  pub are_names : AreNames (sets ∷ table ∷ more_tables)

-- all of them
abbrev pub prove_words : ProveNames → List Text
prove_words names = text_word names.claims ∷ names.sets ∷ names.table ∷ names.more_tables

-- what they ask for with the blank there at home, of so many workers, with the tables folded or whole, and within a budget for each
-- claim, or within none
abbrev pub asks_for_goal : Goal → ProveNames → ℕ → Bool → Option ℕ → Asked
asks_for_goal goal names workers folds budget = prove (record {
  claims = text_file names.claims;
  sets = names.sets;
  tables = names.table ∷ names.more_tables;
  workers = workers;
  fold = folds;
  budget = budget;
  goal = goal;
})

-- the same with the blank in the first cell
abbrev pub asks_for_proofs : ProveNames → ℕ → Bool → Option ℕ → Asked
asks_for_proofs names workers folds budget = asks_for_goal First names workers folds budget
