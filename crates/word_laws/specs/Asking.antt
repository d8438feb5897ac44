-- Which words ask for what.
use Rattle.std.specs.Prelude.{◌≡◌, ◌≤◌, List, Option, Some, None, codes, length}
use Rattle.std.specs.List.{All}
use Rattle.clap.specs.Lexer.{usize_max}
use Rattle.clap.specs.Walk.{Text}
use Rattle.pdb_request.specs.Asked.{Asked}
use Rattle.pdb_words.specs.CommandLine.{Parses, asked_of}
use Rattle.pdb_words.specs.Commands.{IsPlain}

-- the words parse, and ask for this
abbrev pub AsksFor : List Text → Asked → Type 0
AsksFor words asked = Parses words × (asked_of words ≡ asked)

-- no word begins with `-`, and there are no more than a machine has room for
abbrev pub AreNames : List Text → Type 0
AreNames words = All IsPlain words × (length words ≤ usize_max)

-- where a text comes from: a file of a name that doesn't begin with `-`, or standard input
pub data TextFrom : Type 0 where
  file : (name : Text) → IsPlain name → TextFrom
  input : TextFrom

-- the word for it
abbrev pub text_word : TextFrom → Text
text_word (file name is_plain) = name
text_word input = codes "-"

-- the name of the file, or none for standard input
abbrev pub text_file : TextFrom → Option Text
text_file (file name is_plain) = Some name
text_file input = None
