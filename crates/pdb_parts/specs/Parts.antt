-- `parts BOARD N K ANSWERS..`: what lines tell of the parts of a bound, joined.
use Rattle.std.specs.Prelude.{◌≡◌, ◌^◌, ℕ, List, [], ◌∷◌, Some, Option, Result, Ok, Err, flat_map, map}
use Rattle.puz_board.specs.BoardTexts.{Spells, board_of_text}
use Rattle.puz_board.specs.declared.texts.BoardFault.{BoardFault}
use Rattle.claim_text.specs.Parts.{AreParts}
use Rattle.byte_io.specs.Shelf.{Bytes}
use Rattle.pdb_request.specs.Asked.{PartsArguments}
use Rattle.pdb_run.specs.Commands.{Plan, Reply, Wanted, plan}
use Rattle.pdb_verdict.specs.Limits.{a_text}
use Rattle.pdb_verdict.specs.Lines.{reply_on}
use Rattle.pdb_verdict.specs.declared.verdicts.Fault.TheVariants as fault
use Rattle.pdb_parts.specs.Joining.{AreFirstMoves, ShownBoundInParts, joined_reply, whole_lines}

-- ---- what is read

-- a file of answer lines, under this name, has 2^26 bytes at most
abbrev pub an_answers_text : Bytes → Wanted
an_answers_text name = record { name = Some name; limit = 2 ^ 26 }

-- the board text and the files of answer lines, in this order
abbrev pub parts_inputs : PartsArguments → List Wanted
parts_inputs arguments = a_text arguments.board ∷ map an_answers_text arguments.answers

-- ---- what is said

-- the bound in parts that is asked for, of this board
abbrev pub asked_of_board : PartsArguments → List ℕ → ShownBoundInParts
asked_of_board arguments b = record { board = b; bound = arguments.bound; count = arguments.count; goal = arguments.goal }

-- this is said where the lines show these moves, if any
pub record IsJoinedReply (asked : ShownBoundInParts) (answers : List Bytes) (reply : Reply) : Type 0 where
  pub moves : Option (List ℕ)
  pub first : AreFirstMoves asked (flat_map whole_lines answers) moves
  pub is : reply ≡ joined_reply answers asked moves

-- the same for a board that was read, and otherwise why its text is refused
abbrev pub IsReplyOfParts : PartsArguments → Result (List ℕ) BoardFault → List Bytes → Reply → Type 0
IsReplyOfParts arguments (Err refused) answers reply = reply ≡ reply_on [] (Err (fault.Board refused))
IsReplyOfParts arguments (Ok b) answers reply = IsJoinedReply (asked_of_board arguments b) answers reply

-- ---- the command

-- this is said of the board text and the answer lines that were read, where a bound may have so many parts
pub record IsPartsReply (arguments : PartsArguments) (inputs : List Bytes) (reply : Reply) : Type 0 where
  pub text : Bytes
  pub answers : List Bytes
  pub order : inputs ≡ text ∷ answers
  pub count : AreParts arguments.count
  pub said : IsReplyOfParts arguments (board_of_text text) answers reply

-- it takes memory to join parts, once the text spells a board
abbrev pub TakesMemoryForParts : List Bytes → Type 0
TakesMemoryForParts inputs = (text : Bytes) × (answers : List Bytes) × (b : List ℕ) × (inputs ≡ text ∷ answers) × Spells text b

abbrev pub parts_plan : PartsArguments → Plan
parts_plan arguments = plan (parts_inputs arguments) (IsPartsReply arguments) TakesMemoryForParts
