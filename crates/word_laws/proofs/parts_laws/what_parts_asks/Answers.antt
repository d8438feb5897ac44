use Rattle.std.proofs.Common.{refl, []}
use Rattle.clap.proofs.OnLiterals.{clap_on_literals}
use Rattle.clap.specs.declared.error.kind.ErrorKind.TheVariants as kind
use Rattle.pdb_words.proofs.CommandLemmas.{mistaken_parse}
use Rattle.word_laws.proofs.PartsLemmas.{answerless, bound_mistaken, count_mistaken, even_mistaken, parts_asked}
use Rattle.word_laws.proofs.parts_laws.what_parts_asks.Goals as goal

-- parts with a board, a bound, a count and answers asks for joining these, and takes no flag
pub returns : goal.returns
unfolding clap_on_literals
returns c = record {
  files = parts_asked;
  other_bound = bound_mistaken;
  other_count = count_mistaken;
  even_count = even_mistaken;
  no_answers = answerless;
  workers = λ number. mistaken_parse _ kind.UnknownArgument [] refl (λ e. cc) (λ e. cc);
}
