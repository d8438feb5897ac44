-- What the errors are told beside what is said of a bound in parts: of lines that are skipped, and of parts that a budget ended.
use Rattle.std.specs.Prelude.{◌≡◌, ◌⊎◌, ℕ, ◌+◌, ◌-◌, ◌==◌, ◌&&◌, ◌||◌, Bool, min, nat_lt, not, if◌then◌else◌, List, [], ◌∷◌, ◌++◌, Option, Some, None, Result, Ok, Err}
use Rattle.std.specs.Prelude.{codes, decimal, filter, flat_map, length, map, option_map, take, unwrap_or}
use Rattle.std.specs.List.{list_any, range_with_len}
use Rattle.std.specs.Str.{bytes_eq}
use Rattle.std.specs.Io.KnownBytes.{Appends, Keeps}
use Rattle.puz_board.specs.BoardTexts.{board_of_text}
use Rattle.puz_board.specs.declared.texts.BoardFault.{BoardFault}
use Rattle.claim_text.specs.Lines.{refused, told_line}
use Rattle.byte_io.specs.Shelf.{Bytes}
use Rattle.byte_io.specs.Streams.{AppendsFront}
use Rattle.pdb_request.specs.Asked.{PartsArguments}
use Rattle.pdb_run.specs.Inputs.{AreRead}
use Rattle.pdb_run.specs.Runs.{World}
use Rattle.pdb_run.specs.declared.statuses.Status.{Status}
use Rattle.pdb_run.specs.declared.statuses.Status.TheVariants.{Yes, Refused}
use Rattle.pdb_parts.specs.Joining.{AreFirstMoves, ShownBoundInParts, claim_of, is_told, part_line, whole_lines}
use Rattle.pdb_parts.specs.Parts.{asked_of_board, parts_inputs}

-- ---- which lines

-- the line that says that a budget ended the search of the part with this index; that its board has no solution
abbrev pub spent_line : ShownBoundInParts → ℕ → List ℕ
spent_line asked index = told_line asked.goal (refused (codes "refused K1") (claim_of asked index))

abbrev pub unsolved_line : ShownBoundInParts → ℕ → List ℕ
unsolved_line asked index = told_line asked.goal (refused (codes "refused K2") (claim_of asked index))

-- the line is that of one of so many indices
abbrev pub is_one_of : (ℕ → List ℕ) → ℕ → List ℕ → Bool
is_one_of line_of count line = list_any (λ index. bytes_eq line (line_of index)) (range_with_len 0 count)

-- it begins as the line of a digest does
abbrev pub is_digest : List ℕ → Bool
is_digest line = bytes_eq (codes "sha256 ") (take 7 line)

-- it says nothing: it begins so, or with `#`, or has its LF alone
abbrev pub is_aside : List ℕ → Bool
is_aside line = is_digest line || bytes_eq (codes "#") (take 1 line) || bytes_eq line (codes "\n")

-- it is one that a search of the parts writes which doesn't show the bound to be false, or says nothing
abbrev pub is_of_search : ShownBoundInParts → List ℕ → Bool
is_of_search asked line =
    is_one_of (part_line asked) asked.count line || is_one_of (spent_line asked) asked.count line
    || is_one_of (unsolved_line asked) asked.count line || is_aside line

-- the other ones of the lines
abbrev pub skipped_lines : List (List ℕ) → ShownBoundInParts → List (List ℕ)
skipped_lines lines asked = filter (λ line. not (is_of_search asked line)) lines

-- ---- the first of these

-- a byte as it is quoted: `?`, which is 63, for all but the printable ones of ASCII, which are 32 to 126
abbrev pub quoted_byte : ℕ → ℕ
quoted_byte byte = if nat_lt byte 32 || nat_lt 126 byte then 63 else byte

-- a line as it is quoted: 160 bytes of it at most, without its LF
abbrev pub quoted : List ℕ → Bytes
quoted line = map quoted_byte (take (min (length line - 1) 160) line)

-- that the first is this line of a file of this name, where lines are counted from 1
abbrev pub first_line : Bytes → ℕ → List ℕ → Bytes
first_line name number line =
    codes "pdb_cli: the first of them is line " ++ decimal number ++ codes " of " ++ map quoted_byte name ++ codes ": " ++ quoted line ++ codes "\n"

-- the first of lines that is skipped, where so many stand before these, and its number
abbrev pub first_in : ShownBoundInParts → ℕ → List (List ℕ) → Option (ℕ × List ℕ)
first_in asked before [] = None
first_in asked before (line ∷ lines) = if is_of_search asked line then first_in asked (before + 1) lines else Some (before + 1, line)

-- what is told of the first of the lines of files, by their names and texts; nothing where none is skipped
abbrev pub first_told : ShownBoundInParts → (names texts : List Bytes) → Bytes
first_told asked [] texts = []
first_told asked (name ∷ names) [] = []
first_told asked (name ∷ names) (text ∷ texts) =
    unwrap_or (option_map (λ found. first_line name found.0 found.1) (first_in asked 0 (whole_lines text))) (first_told asked names texts)

-- ---- which parts

-- one of the lines says that a budget ended the search of the part
abbrev pub is_spent : List (List ℕ) → ShownBoundInParts → ℕ → Bool
is_spent lines asked index = list_any (λ line. bytes_eq line (spent_line asked index)) lines

-- the parts of which that is said, and of which no line says that they hold
abbrev pub spent_parts : List (List ℕ) → ShownBoundInParts → List ℕ
spent_parts lines asked = filter (λ index. not (is_told lines asked index) && is_spent lines asked index) (range_with_len 0 asked.count)

-- ---- what is told of them

-- that lines are skipped, so many of so many
abbrev pub skipped_line : (count all : ℕ) → Bytes
skipped_line count all =
    codes "pdb_cli: lines that tell of no part of this bound, and were skipped: " ++ decimal count ++ codes " of " ++ decimal all ++ codes "\n"

-- that a budget ended the search of open parts, so many of so many
abbrev pub ended_line : (count all : ℕ) → Bytes
ended_line count all =
    codes "pdb_cli: parts that are open since a budget ended their search: " ++ decimal count ++ codes " of " ++ decimal all ++ codes "\n"

-- and where there are none, nothing
abbrev pub where_some : ℕ → Bytes → Bytes
where_some count line = if count == 0 then [] else line

-- both, with so many lines skipped of all, what is told of the first, and so many parts whose search was ended
abbrev pub counts_text : (skipped all : ℕ) → Bytes → (spent count : ℕ) → Bytes
counts_text skipped all first spent count = where_some skipped (skipped_line skipped all ++ first) ++ where_some spent (ended_line spent count)

-- both of the lines of files and the parts; and nothing where moves show the bound to be false
abbrev pub beside_text : (names texts : List Bytes) → ShownBoundInParts → Option (List ℕ) → Bytes
beside_text names texts asked (Some moves) = []
beside_text names texts asked None =
    let lines = flat_map whole_lines texts in
    counts_text (length (skipped_lines lines asked)) (length lines) (first_told asked names texts) (length (spent_parts lines asked)) asked.count

-- ---- by a run

-- that is told of the lines of these texts, of files of these names
pub record IsBesideText (asked : ShownBoundInParts) (names answers : List Bytes) (told : Bytes) : Type 0 where
  pub moves : Option (List ℕ)
  pub first : AreFirstMoves asked (flat_map whole_lines answers) moves
  pub is : told ≡ beside_text names answers asked moves

-- the same for a board that was read; and nothing where its text is refused
abbrev pub IsToldOfAnswers : PartsArguments → Result (List ℕ) BoardFault → List Bytes → Bytes → Type 0
IsToldOfAnswers arguments (Err why) answers told = told ≡ []
IsToldOfAnswers arguments (Ok b) answers told = IsBesideText (asked_of_board arguments b) arguments.answers answers told

-- the inputs hold these bytes at the start, and the errors got what is told of the answers there, or a proper front of it
pub record HasToldBeside (arguments : PartsArguments) (old : World) (old_err new_err : Option Bytes) : Type 0 where
  pub text : Bytes
  pub answers : List Bytes
  pub read : AreRead old.files old.reader (parts_inputs arguments) (text ∷ answers)
  pub told : Bytes
  pub is : IsToldOfAnswers arguments (board_of_text text) answers told
  pub got : Appends old_err new_err told ⊎ AppendsFront old_err new_err told

-- so it is with a yes or a no, once that is written whole; with any other status the errors got nothing
abbrev pub TellsOfAnswers : PartsArguments → World → (old_err new_err : Option Bytes) → Status → Type 0
TellsOfAnswers arguments old old_err new_err Yes = HasToldBeside arguments old old_err new_err
TellsOfAnswers arguments old old_err new_err Refused = HasToldBeside arguments old old_err new_err
TellsOfAnswers arguments old old_err new_err other = Keeps old_err new_err
