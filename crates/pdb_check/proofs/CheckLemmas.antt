-- What is told of a check is told of the inputs that were read.
use Rattle.std.proofs.Common.{◌≡◌, ◌≢◌, ℕ, List, [], ◌∷◌, Vec, Result, Ok, Err, IfOk, OnErr, arith, get_or, length, refl}
use Rattle.std.specs.declared.alloc.AllocError.{AllocError}
use Rattle.byte_io.specs.Shelf.{Bytes}
use Rattle.pdb_run.specs.Answers.{IsAnswerBy, IsReplyOf, all_bytes}
use Rattle.pdb_run.specs.declared.answers.CommandAnswer.{CommandAnswer}
use Rattle.pdb_verdict.specs.Inputs.{Given, files_in_order}
use Rattle.pdb_verdict.specs.Lines.{reply_to}
use Rattle.pdb_verdict.specs.Verdicts.{IsAnswerTo, IsResult, TakesMemory, TellsResult}
use Rattle.pdb_verdict.specs.declared.verdicts.Fault.{Fault}
use Rattle.pdb_verdict.specs.declared.verdicts.Fault.TheVariants.{Memory}
use Rattle.pdb_verdict.specs.declared.verdicts.Verdict.{Verdict}
use Rattle.pdb_verdict.proofs.RefusalLemmas.{found_settled}
use Rattle.pdb_check.specs.Plans.{CheckTakesMemory, IsCheckReply}

-- what is told of an answer to inputs tells the result, or memory is wanted, where it is taken
pub result_told : (inputs : Given) (answer : Result Verdict Fault) (told : Result CommandAnswer AllocError) → IsAnswerTo inputs answer
    → IfOk told (λ t. IsReplyOf t (reply_to inputs answer) × (answer ≢ Err Memory)) → OnErr told (answer ≡ Err Memory)
    → IsAnswerBy (TellsResult inputs) (TakesMemory inputs) told
result_told inputs answer (Ok t) is says wants =
    let result = found_settled (IsResult inputs) (TakesMemory inputs) answer says.1 is in
    (reply_to inputs answer, record { answer = answer; is_result = result; told = refl }, says.0)
result_told inputs answer (Err e) is says wants = rw wants at is

-- the only one
pub only_input : {Z : Type 0} (xs : List (Vec ℕ Z)) (x : Vec ℕ Z) (now : Bytes) → length xs ≡ 1 → x ≡ get_or xs 0 x
    → now ≡ x.items → all_bytes xs ≡ now ∷ []
only_input (y ∷ []) x now one is same = rw (same, is)
only_input _ x now one is same = absurd (omega arith)

-- an answer on what was read is one on the inputs
pub check_answered : {A : Type 0} (given_of : A → Given) (a : A) (inputs : List Bytes) (told : Result CommandAnswer AllocError)
    → inputs ≡ files_in_order (given_of a) → (of : Given) → of ≡ given_of a → IsAnswerBy (TellsResult of) (TakesMemory of) told
    → IsAnswerBy (IsCheckReply given_of inputs) (CheckTakesMemory given_of inputs) told
check_answered given_of a inputs (Ok answer) are of same says = (says.0, (a, are, rw same at says.1), says.2)
check_answered given_of a inputs (Err refused) are of same takes = (a, are, rw same at takes)
