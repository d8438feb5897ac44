-- What a yes says.
use Rattle.std.proofs.Common.{◌≡◌, ◌∙◌, ◌%◌, ◌<◌, ◌++◌, ℕ, zero, suc, Bool, true, false, List, [], Option, Some, None, Result, Ok, Err, ap, arith, cond}
use Rattle.std.proofs.Common.{flat_map, refl, sym}
use Rattle.puz_board.specs.BoardTexts.{Spells, board_of_text}
use Rattle.puz_goal.specs.Goals.{IsBoundedFor}
use Rattle.puz_board.specs.declared.texts.BoardFault.{BoardFault}
use Rattle.puz_board.proofs.SpellingLemmas.{spelled-board_of_text}
use Rattle.claim_text.specs.Lines.{joined_line}
use Rattle.claim_text.specs.Parts.{AreParts}
use Rattle.byte_io.specs.Shelf.{Bytes}
use Rattle.pdb_request.specs.Asked.{PartsArguments}
use Rattle.pdb_run.specs.Commands.{Reply}
use Rattle.pdb_run.specs.Writing.{digests_of, reply_text}
use Rattle.pdb_verdict.specs.Lines.{reply_on}
use Rattle.pdb_verdict.specs.declared.verdicts.Fault.TheVariants as fault
use Rattle.pdb_parts.specs.Joining.{are_told, bound_reply, false_reply, joined_reply, open_reply, whole_lines}
use Rattle.pdb_parts.specs.Laws.{AreTrueAnswers}
use Rattle.pdb_parts.specs.Parts.{IsPartsReply, IsReplyOfParts, asked_of_board}
use Rattle.pdb_parts.proofs.LawLemmas.{lines_give}

-- an odd number isn't 0
odd_some : (n : ℕ) → n % 2 ≡ 1 → 0 < n
odd_some zero odd = absurd (omega (arith, odd))
odd_some (suc n) odd = omega arith

-- the line of the bound, for the board that was read, behind the digests of the answers; and the bound holds where these are true
pub record SaysBound (arguments : PartsArguments) (text : Bytes) (answers : List Bytes) (reply : Reply) : Type 0 where
  pub board : List ℕ
  pub spelt : Spells text board
  pub line : reply_text reply ≡ digests_of answers ++ joined_line arguments.goal arguments.bound arguments.count board
  pub bounded : AreTrueAnswers (asked_of_board arguments board) answers → IsBoundedFor arguments.goal board arguments.bound

module _ (arguments : PartsArguments) (text : Bytes) (answers : List Bytes) (reply : Reply) (count : AreParts arguments.count) (is_yes : reply.is_yes ≡ true) where
  no_yes : {A : Type 0} (other : Reply) → reply ≡ other → other.is_yes ≡ false → A
  no_yes other same is_no = let clash : false ≡ true = sym is_no ∙ sym (ap (λ (r : Reply). r.is_yes) same) ∙ is_yes in absurd cc

  module _ (b : List ℕ) (spelt : Spells text b) where
    by_told : (told : Bool) → are_told (flat_map whole_lines answers) (asked_of_board arguments b) ≡ told
        → reply ≡ cond told (bound_reply answers (asked_of_board arguments b)) (open_reply answers (asked_of_board arguments b))
        → SaysBound arguments text answers reply
    by_told true told is = record {
      board = b;
      spelt = spelt;
      line = ap reply_text is;
      bounded = lines_give (flat_map whole_lines answers) (asked_of_board arguments b) spelt.board (odd_some arguments.count count.odd) told;
    }
    by_told false told is = no_yes (open_reply answers (asked_of_board arguments b)) is refl

    by_moves : (moves : Option (List ℕ)) → reply ≡ joined_reply answers (asked_of_board arguments b) moves → SaysBound arguments text answers reply
    by_moves (Some moves) is = no_yes (false_reply (asked_of_board arguments b) moves) is refl
    by_moves None is = by_told (are_told (flat_map whole_lines answers) (asked_of_board arguments b)) refl is

  by_board : (r : Result (List ℕ) BoardFault) → board_of_text text ≡ r → IsReplyOfParts arguments r answers reply → SaysBound arguments text answers reply
  by_board (Err refused) same said = no_yes (reply_on [] (Err (fault.Board refused))) said refl
  by_board (Ok b) same said = by_moves b (spelled-board_of_text text b same) said.moves said.is

-- so a yes says it
pub yes_says : (arguments : PartsArguments) (inputs : List Bytes) (reply : Reply) (is : IsPartsReply arguments inputs reply) → reply.is_yes ≡ true
    → SaysBound arguments is.text is.answers reply
yes_says arguments inputs reply is is_yes =
    by_board arguments is.text is.answers reply is.count is_yes (board_of_text is.text) refl is.said
