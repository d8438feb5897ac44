-- What the steps of a run say.
use Rattle.std.specs.Prelude.{◌≡◌, ℕ, List, ◌++◌, Option, Some}
use Rattle.byte_io.specs.Shelf.{Bytes}
use Rattle.pdb_request.specs.Asked.{ProveArguments, prove}
use Rattle.pdb_run.specs.Runs.{World}
use Rattle.pdb_words.specs.CommandLine.{Parses, asked_of}
use Rattle.pdb_program.specs.Headline.{Headline}
use Rattle.pdb_program.specs.PartLines.{ArePartLinesTrue}

-- nothing has changed but what was written
pub record OnlyWrites (old new : World) : Type 0 where
  pub files : new.files ≡ old.files
  pub calls : new.calls ≡ old.calls
  pub failed : new.failed ≡ old.failed
  pub reader : new.reader ≡ old.reader

-- the headline on these words, from the one world to the other, where they tell their bytes
abbrev pub SaysHeadline : List Bytes → World → World → ℕ → Type 0
SaysHeadline words old new number =
    (before later : Bytes → Option Bytes) (input start lines : Bytes) → Parses words → old.files ≡ Some before → new.files ≡ Some later
    → old.reader ≡ Some input → old.written.bytes ≡ Some start → new.written.bytes ≡ Some (start ++ lines)
    → Headline (asked_of words) before later input lines number

-- of words that ask for `prove`, the lines of parts of bounds that are written are true, where the writer tells its bytes
abbrev pub SaysParts : List Bytes → World → World → Type 0
SaysParts words old new =
    (a : ProveArguments) (start lines : Bytes) → Parses words → asked_of words ≡ prove a
    → old.written.bytes ≡ Some start → new.written.bytes ≡ Some (start ++ lines) → ArePartLinesTrue a.goal lines
