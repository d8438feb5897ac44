use Rattle.std.proofs.Common.{refl, inl, inr, ◌∷◌, [], ℕ, List, codes}
use Rattle.clap.proofs.OnLiterals.{clap_on_literals}
use Rattle.clap.specs.Kinds.{or_else}
use Rattle.clap.specs.declared.error.kind.ErrorKind.TheVariants as kind
use Rattle.pdb_request.specs.Asked.{Asked, table}
use Rattle.pdb_words.specs.Commands.{IsPlain}
use Rattle.pdb_words.specs.Numbers.{number_of}
use Rattle.pdb_words.proofs.CommandLemmas.{mistaken}
use Rattle.word_laws.proofs.WalkLemmas.{AsksIf, asks_if, comes, flag, plain, unless, workers}
use Rattle.word_laws.proofs.laws.what_table_asks.Goals as goal
use Rattle.word_laws.specs.NumberTexts.{writes_workers}

-- the check of a table by so many workers
abbrev asked : List ℕ → ℕ → Asked
asked name workers = table (record { file = name; workers = workers })

module _ (number name : List ℕ) (n : IsPlain number) (f : IsPlain name) where
  before : AsksIf (writes_workers number) (codes "table" ∷ codes "--workers" ∷ number ∷ name ∷ []) (asked name (number_of number))
  unfolding clap_on_literals
  before = asks_if workers number n (λ is. or_else (unless is []) []) (asked name)
      (comes (inr (inl refl)) (flag (codes "--workers") ∷ plain number n ∷ plain name f ∷ []) refl refl refl) refl refl

  behind : AsksIf (writes_workers number) (codes "table" ∷ name ∷ codes "--workers" ∷ number ∷ []) (asked name (number_of number))
  unfolding clap_on_literals
  behind = asks_if workers number n (λ is. unless is []) (asked name)
      (comes (inr (inl refl)) (plain name f ∷ flag (codes "--workers") ∷ plain number n ∷ []) refl refl refl) refl refl

-- table with a name asks for the check of this table, with the workers that are named
pub returns : goal.returns
unfolding clap_on_literals
returns c = record {
  file = λ name f. comes (inr (inl refl)) (plain name f ∷ []) refl refl refl;
  alone = mistaken _ kind.MissingRequiredArgument [] refl (λ e. cc) (λ e. cc);
  workers = λ number name n f. (before number name n f).0;
  other_workers = λ number name n f. (before number name n f).1;
  workers_last = λ number name n f. (behind number name n f).0;
  other_workers_last = λ number name n f. (behind number name n f).1;
}
