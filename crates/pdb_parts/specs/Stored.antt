-- How bounds, marks and counts are stored.
use Rattle.std.specs.Prelude.{◌≡◌, ℕ, ◌<◌, ◌==◌, ⊤, Bool, true, false, List, [], ◌∷◌, Option, Some, None, flat_map, length, not, option_map, slice_index_or, string_bytes, unwrap_or}
use Rattle.std.specs.Str.{bytes_eq}
use Rattle.byte_io.specs.Shelf.{Bytes}
use Rattle.pdb_run.specs.Writing.{reply_text}
use Rattle.pdb_parts.specs.Beside.{beside_text, first_line, is_of_search, is_spent, skipped_lines, spent_line}
use Rattle.pdb_parts.specs.Joining.{AreFirstMoves, RefutesNot, ShownBoundInParts, is_told, joined_reply, part_line, whole_lines}
use Rattle.pdb_parts.specs.declared.answers.PartAnswer.{PartAnswer}
use Rattle.pdb_parts.specs.declared.answers.PartAnswer.TheVariants.{Holds, Skipped, Spent}
use Rattle.pdb_parts.specs.declared.beside.LineCounts.{LineCounts}
use Rattle.pdb_parts.specs.declared.first.SkippedLine.{SkippedLine}
use Rattle.pdb_parts.specs.declared.joining.Joined.{Joined}
use Rattle.pdb_parts.specs.declared.marks.BoundInParts.{BoundInParts}

-- the bound in parts
abbrev pub shown : BoundInParts → ShownBoundInParts
shown asked = record { board = asked.board; bound = asked.bound; count = asked.count; goal = asked.goal }

-- ---- one line

-- the answer is that the part with this index holds; that a budget ended its search; that the line is skipped
abbrev pub holds_in : PartAnswer → ℕ → Bool
holds_in (Holds i) index = i == index
holds_in _ index = false

abbrev pub spent_in : PartAnswer → ℕ → Bool
spent_in (Spent i) index = i == index
spent_in _ index = false

abbrev pub is_skip : PartAnswer → Bool
is_skip Skipped = true
is_skip _ = false

-- the index in the answer, if it has one, is below this
abbrev pub IsBelow : ℕ → PartAnswer → Type 0
IsBelow count (Holds i) = i < count
IsBelow count (Spent i) = i < count
IsBelow count _ = ⊤

-- this is what the line tells, which shows no moves against the bound
pub record IsAnswerOf (asked : ShownBoundInParts) (line : List ℕ) (answer : PartAnswer) : Type 0 where
  pub none : RefutesNot asked line
  pub below : IsBelow asked.count answer
  pub holds : (i : ℕ) → i < asked.count → bytes_eq line (part_line asked i) ≡ holds_in answer i
  pub spent : (i : ℕ) → i < asked.count → bytes_eq line (spent_line asked i) ≡ spent_in answer i
  pub skipped : not (is_of_search asked line) ≡ is_skip answer

-- ---- lines

-- these are the marks of the parts that lines say to hold, and of those whose search a budget ended
pub record AreMarksOf (holds spent : List Bool) (lines : List (List ℕ)) (asked : ShownBoundInParts) : Type 0 where
  pub holds_size : length holds ≡ asked.count
  pub spent_size : length spent ≡ asked.count
  pub told : (i : ℕ) → i < asked.count → slice_index_or holds i false ≡ is_told lines asked i
  pub ended : (i : ℕ) → i < asked.count → slice_index_or spent i false ≡ is_spent lines asked i

-- these are the counts of lines: of all, and of those that are skipped
pub record AreCountsOf (counts : LineCounts) (lines : List (List ℕ)) (asked : ShownBoundInParts) : Type 0 where
  pub all : counts.all ≡ length lines
  pub skipped : counts.skipped ≡ length (skipped_lines lines asked)

-- ---- the first line that is skipped

-- its number and its bytes
abbrev pub skipped_shown : Option SkippedLine → Option (ℕ × List ℕ)
skipped_shown first = option_map (λ skipped. (skipped.number, skipped.line.now)) first

-- the first of lines and one more
abbrev pub first_with : Option SkippedLine → SkippedLine → (is_skip : Bool) → Option SkippedLine
first_with (Some first) line is_skip = Some first
first_with None line true = Some line
first_with None line false = None

-- what is told of it in files and one more, of this name, where it is the first there
abbrev pub told_with : Bytes → (name : Bytes) → Option (ℕ × List ℕ) → Bytes
told_with [] name first = unwrap_or (option_map (λ found. first_line name found.0 found.1) first) []
told_with (byte ∷ told) name first = byte ∷ told

-- ---- what is said

-- this is what is said of the lines of these texts, of files of these names
pub record IsJoined (joined : Joined) (names answers : List Bytes) (asked : ShownBoundInParts) : Type 0 where
  pub moves : Option (List ℕ)
  pub first : AreFirstMoves asked (flat_map whole_lines answers) moves
  pub text : string_bytes joined.text ≡ reply_text (joined_reply answers asked moves)
  pub is_yes : joined.is_yes ≡ (joined_reply answers asked moves).is_yes
  pub beside : string_bytes joined.beside ≡ beside_text names answers asked moves
