-- Where texts come from, in words.
use Rattle.std.proofs.Common.{◌≡◌, arith, refl, [], ◌∷◌, codes}
use Rattle.std.proofs.lemmas.Bool.Decides.{nat_tests}
use Rattle.clap.specs.Walk.{Text}
use Rattle.pdb_words.specs.Commands.{IsPlain}
use Rattle.pdb_words.specs.Prove.{file_or_input}
use Rattle.word_laws.proofs.WalkLemmas.{Word, flag, plain, text_of}
use Rattle.word_laws.specs.Asking.{TextFrom, file, input, text_file, text_word}

-- what holds of each plain name and of the reader holds wherever a text comes from
pub by_source : (P : TextFrom → Type 0) → ((name : Text) (is : IsPlain name) → P (file name is)) × P input → (from : TextFrom) → P from
by_source P all (file name is) = all.0 name is
by_source P all input = all.1

-- the word for a text, which `clap` doesn't read as a flag
abbrev pub word_for : TextFrom → Word
word_for (file name is) = plain name is
word_for input = flag (codes "-")

-- the word for a text is its file's name, or a dash for the reader
pub word_is : (from : TextFrom) → text_of (word_for from) ≡ text_word from
word_is (file name is) = refl
word_is input = refl

-- a name that doesn't begin with `-` is that of a file
pub file_is : (from : TextFrom) → file_or_input (text_word from) ≡ text_file from
file_is (file [] is) = refl
file_is (file (first ∷ rest) is) = grind (arith, nat_tests)
file_is input = refl
