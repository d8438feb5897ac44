-- How a run of `parts` ends.
use Rattle.std.proofs.Common.{◌≡◌, ◌∷◌, ℕ, Bool, List, [], Option, Ok, Err, inl, refl, string_bytes, subst}
use Rattle.std.proofs.KnownBytes.{Appends-nil, Keeps-refl}
use Rattle.puz_board.specs.BoardTexts.{Spells, board_of_text}
use Rattle.puz_board.specs.declared.texts.BoardFault.{BoardFault}
use Rattle.claim_text.specs.Parts.{AreParts}
use Rattle.byte_io.specs.Shelf.{Bytes}
use Rattle.pdb_request.specs.Asked.{PartsArguments}
use Rattle.pdb_run.specs.Commands.{Reply}
use Rattle.pdb_run.specs.Io.{HasRead, IsSaid}
use Rattle.pdb_run.specs.Runs.{Ends, World, replied, status_of_reply}
use Rattle.pdb_run.specs.Writing.{memory_line, reply_text}
use Rattle.pdb_run.specs.declared.statuses.Status.{Status}
use Rattle.pdb_run.specs.declared.statuses.Status.TheVariants.{Fault, NoMemory, Refused, Yes}
use Rattle.pdb_run.proofs.AnswerLemmas.{begun_reading, ends_so, ends_wanting}
use Rattle.pdb_verdict.specs.Lines.{reply_on}
use Rattle.pdb_verdict.specs.declared.verdicts.Fault.TheVariants as fault
use Rattle.pdb_parts.specs.Beside.{HasToldBeside, IsToldOfAnswers, TellsOfAnswers}
use Rattle.pdb_parts.specs.Joining.{joined_reply}
use Rattle.pdb_parts.specs.Parts.{IsReplyOfParts, asked_of_board, parts_inputs, parts_plan}
use Rattle.pdb_parts.specs.Stored.{IsJoined}
use Rattle.pdb_parts.specs.declared.joining.Joined.{Joined}

-- ---- a run whose inputs are read

module _ (arguments : PartsArguments) {old mid : World} (text : Bytes) (answers : List Bytes) (are : HasRead (parts_inputs arguments) old mid (text ∷ answers)) where
  -- a reply is said
  pub ends_replied : {new : World} {status : Status} → AreParts arguments.count → (reply : Reply)
      → IsReplyOfParts arguments (board_of_text text) answers reply → IsSaid (reply_text reply) (status_of_reply reply.is_yes) mid new status
      → Ends (parts_plan arguments) old new status
  ends_replied count reply right said =
      let begun = begun_reading {plan = parts_plan arguments} refl are in
      ends_so (replied (text ∷ answers) reply) said
      (begun.read, record { text = text; answers = answers; order = refl; count = count; said = right })
      begun.free begun.files begun.calls (λ _ _. begun.failed) begun.behind begun.written

  -- memory was wanted
  pub ends_unjoined : {new : World} {status : Status} (b : List ℕ) → Spells text b → IsSaid memory_line NoMemory mid new status → Ends (parts_plan arguments) old new status
  ends_unjoined b spelt said = ends_wanting refl are (text, answers, b, refl, spelt) said

  -- ---- of a board text that is refused

  module _ (refused : BoardFault) (is : Err refused ≡ board_of_text text) where
    pub refused_reply : IsReplyOfParts arguments (board_of_text text) answers (reply_on [] (Err (fault.Board refused)))
    refused_reply = subst (λ board. IsReplyOfParts arguments board answers (reply_on [] (Err (fault.Board refused)))) is refl

    told_nothing : (err : Option Bytes) → HasToldBeside arguments old err err
    told_nothing err = record {
      text = text;
      answers = answers;
      read = are.read;
      told = [];
      is = subst (λ board. IsToldOfAnswers arguments board answers []) is refl;
      got = inl (Appends-nil err);
    }

    -- nothing is told
    pub refused_tells : (err : Option Bytes) (status : Status) → TellsOfAnswers arguments old err err status
    refused_tells err Yes = told_nothing err
    refused_tells err Refused = told_nothing err
    refused_tells err Fault = Keeps-refl err
    refused_tells err NoMemory = Keeps-refl err

  -- ---- of parts that are joined

  module _ (b : List ℕ) (is : Ok b ≡ board_of_text text) (joined : Joined) (are_joined : IsJoined joined arguments.answers answers (asked_of_board arguments b)) where
    pub ends_joined : {new : World} {status : Status} → AreParts arguments.count
        → IsSaid (string_bytes joined.text) (status_of_reply joined.is_yes) mid new status → Ends (parts_plan arguments) old new status
    ends_joined {new} {status} count said =
        let reply = joined_reply answers (asked_of_board arguments b) are_joined.moves in
        let right : IsReplyOfParts arguments (Ok b) answers reply = record { moves = are_joined.moves; first = are_joined.first; is = refl } in
        ends_replied count reply (subst (λ board. IsReplyOfParts arguments board answers reply) is right)
        (subst (λ (t : Bytes × Bool). IsSaid t.0 (status_of_reply t.1) mid new status) (λ i. (are_joined.text i, are_joined.is_yes i)) said)
