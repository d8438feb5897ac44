use Rattle.word_laws.proofs.FlagLemmas.{flags_known}
use Rattle.word_laws.proofs.laws.no_other_words_parse.Goals as goal

-- a long flag in words that parse is one that their command takes
pub returns-clause-flags : goal.returns-clause-flags
returns-clause-flags c = flags_known
