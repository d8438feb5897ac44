use Rattle.std.proofs.Common.{refl, []}
use Rattle.clap.proofs.OnLiterals.{clap_on_literals}
use Rattle.clap.specs.declared.error.kind.ErrorKind.TheVariants as kind
use Rattle.pdb_words.proofs.CommandLemmas.{mistaken, mistaken_parse}
use Rattle.pdb_words.proofs.TextLemmas.{dashless}
use Rattle.word_laws.proofs.laws.what_replay_asks.Goals as goal

-- replay alone, or with one name, asks for the puzzle text, and takes no number of workers
pub returns : goal.returns
unfolding clap_on_literals
returns c = record {
  nothing = (refl, refl);
  alone = (refl, refl);
  file = λ name plain. (simp dashless, simp dashless);
  goal = λ name plain. (simp dashless, simp dashless);
  other_goal = λ goal plain none. mistaken _ kind.ValueValidation [] (simp (dashless, none)) (λ e. cc) (λ e. cc);
  workers = λ number. mistaken_parse _ kind.UnknownArgument [] refl (λ e. cc) (λ e. cc);
}
