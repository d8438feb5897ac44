-- What the steps of a run of `parts` do.
use Rattle.std.specs.Prelude.{◌≡◌, ◌⊎◌, ℕ, List, ◌∷◌, Option, Some, Result, Ok, Err, MatchResult, flat_map, length, map, string_bytes}
use Rattle.std.specs.List.{All}
use Rattle.std.specs.Io.KnownBytes.{Appends, Keeps}
use Rattle.puz_board.specs.BoardTexts.{Spells, board_of_text}
use Rattle.claim_text.specs.Parts.{AreParts}
use Rattle.byte_io.specs.Shelf.{Bytes}
use Rattle.byte_io.specs.Streams.{AppendsFront}
use Rattle.pdb_request.specs.Asked.{PartsArguments}
use Rattle.pdb_run.specs.Io.{HasRead}
use Rattle.pdb_run.specs.Runs.{World}
use Rattle.pdb_run.specs.Writing.{digests_of}
use Rattle.pdb_run.specs.declared.statuses.Status.{Status}
use Rattle.pdb_run.specs.declared.statuses.Status.TheVariants.{Yes, Refused}
use Rattle.pdb_verdict.specs.Limits.{a_text}
use Rattle.pdb_parts.specs.Beside.{first_told}
use Rattle.pdb_parts.specs.Joining.{AreFirstMoves, RefutesNot, ShownBoundInParts, false_reply, whole_lines}
use Rattle.pdb_parts.specs.Parts.{an_answers_text, asked_of_board}
use Rattle.pdb_parts.specs.Stored.{AreCountsOf, AreMarksOf, IsJoined, shown}
use Rattle.pdb_parts.specs.declared.joining.Joined.{Joined}
use Rattle.pdb_parts.specs.declared.noting.Joining.{Joining}
use Rattle.pdb_parts.specs.declared.noting.Marks.{Marks}
use Rattle.pdb_parts.specs.declared.noting.Told.{Told}
use Rattle.pdb_parts.specs.declared.noting.Told.TheVariants.{Against, Marked}
use Rattle.pdb_parts.specs.declared.noting.Unjoined.{Unjoined}
use Rattle.pdb_parts.specs.declared.noting.Unjoined.TheVariants.{Board, Memory}

-- ---- files of answer lines

-- no line of the files with these names and bytes shows moves, and this is what they tell
pub record MarksFiles (asked : ShownBoundInParts) (names answers : List Bytes) (marks : Marks) : Type 0 where
  pub sizes : length names ≡ length answers
  pub none : All (RefutesNot asked) (flat_map whole_lines answers)
  pub are : AreMarksOf marks.holds.items marks.spent.items (flat_map whole_lines answers) asked
  pub counts : AreCountsOf marks.counts (flat_map whole_lines answers) asked
  pub first : string_bytes marks.first ≡ first_told asked names answers
  pub digests : string_bytes marks.digests ≡ digests_of answers

-- their lines show moves, and this says that the first of these show the bound to be false
pub record SaysFalse (asked : ShownBoundInParts) (answers : List Bytes) (text : Bytes) : Type 0 where
  pub moves : List ℕ
  pub first : AreFirstMoves asked (flat_map whole_lines answers) (Some moves)
  pub is : text ≡ (false_reply asked moves).lines

-- one of these
abbrev pub TellsOfFiles : ShownBoundInParts → (names answers : List Bytes) → Told → Type 0
TellsOfFiles asked names answers (Against text) = SaysFalse asked answers (string_bytes text)
TellsOfFiles asked names answers (Marked marks) = MarksFiles asked names answers marks

-- ---- behind the board text

-- this is what files tell of the bound in parts that is asked for, of the board of this text
pub record HasNoted (arguments : PartsArguments) (text : Bytes) (names answers : List Bytes) (joining : Joining) : Type 0 where
  pub parts : AreParts joining.asked.count
  pub board : Ok joining.asked.board ≡ board_of_text text
  pub asked : shown joining.asked ≡ asked_of_board arguments joining.asked.board
  pub told : TellsOfFiles (shown joining.asked) names answers joining.told

-- the board text is refused; or it isn't, and memory was wanted
abbrev pub IsUnjoined : Bytes → Unjoined → Type 0
IsUnjoined text (Board refused) = Err refused ≡ board_of_text text
IsUnjoined text Memory = (b : List ℕ) × Spells text b

-- one of these is noted
abbrev pub IsNoted : PartsArguments → Bytes → (names answers : List Bytes) → Result Joining Unjoined → Type 0
IsNoted arguments text names answers noted = MatchResult noted (HasNoted arguments text names answers) (IsUnjoined text)

-- the board text was read, and behind it the files with these names, and this is noted
pub record HasReadParts (arguments : PartsArguments) (old new : World) (names : List Bytes) (noted : Result Joining Unjoined) : Type 0 where
  pub text : Bytes
  pub answers : List Bytes
  pub read : HasRead (a_text arguments.board ∷ map an_answers_text names) old new (text ∷ answers)
  pub is : IsNoted arguments text names answers noted

-- ---- the end

-- what was noted is joined, if it can be
abbrev pub IsJoinedOf : PartsArguments → Bytes → (names answers : List Bytes) → Result Joined Unjoined → Type 0
IsJoinedOf arguments text names answers result = MatchResult result
    (λ joined. (b : List ℕ) × (Ok b ≡ board_of_text text) × IsJoined joined names answers (asked_of_board arguments b)) (IsUnjoined text)

-- with a yes or a no the errors got this text, or a proper front of it, and else nothing
abbrev pub TellsBeside : Bytes → (old_err new_err : Option Bytes) → Status → Type 0
TellsBeside text old_err new_err Yes = Appends old_err new_err text ⊎ AppendsFront old_err new_err text
TellsBeside text old_err new_err Refused = Appends old_err new_err text ⊎ AppendsFront old_err new_err text
TellsBeside text old_err new_err other = Keeps old_err new_err
