-- How a run of claims ends that are ready.
use Rattle.std.proofs.Common.{◌≡◌, ◌≢◌, ◌∙◌, ◌≤◌, ap, Bool, Result, List, [], None, Some, Ok, Err, IfOk, OnErr, inl, inr, length, refl, subst}
use Rattle.std.specs.declared.alloc.AllocError.{AllocError}
use Rattle.std.proofs.lemmas.List.{append-nil}
use Rattle.set_sum.specs.Bundles.{ShownBundle}
use Rattle.claim_text.specs.Claims.{ShownClaim}
use Rattle.byte_io.specs.declared.streams.WriteFault.{WriteFault}
use Rattle.pdb_request.specs.Asked.{ProveArguments}
use Rattle.pdb_run.specs.Answers.{IsAnswerBy, IsReplyOf}
use Rattle.pdb_run.specs.declared.answers.CommandAnswer.{CommandAnswer}
use Rattle.pdb_run.specs.Io.{HasRead, IsWritten}
use Rattle.pdb_run.specs.Runs.{World, replied, status_of_reply}
use Rattle.pdb_run.specs.Writing.{digests_of}
use Rattle.pdb_run.specs.declared.statuses.Status.{Status}
use Rattle.pdb_run.specs.declared.statuses.Status.TheVariants.{Fault}
use Rattle.pdb_verdict.specs.declared.verdicts.Fault as verdict
use Rattle.pdb_verdict.specs.declared.verdicts.Fault.TheVariants.{Memory}
use Rattle.pdb_verdict.specs.declared.verdicts.Verdict.{Verdict}
use Rattle.pdb_verdict.proofs.RefusalLemmas.{cause_settled}
use Rattle.pdb_prove.specs.Prove.{AreReady, ClaimsFiles, IsClaimsReply, IsUnready, ProveEnds, TakesMemoryForClaims, answered, budget_of}
use Rattle.pdb_prove.specs.Prove.{digested_files, in_order, prove_inputs, reply_to_claims, unready}
use Rattle.pdb_prove.specs.Steps.{AreAllTold, AreCut, HasBegun, IsCauseForClaims, IsSameAsked, IsToldTo, claims_of}
use Rattle.pdb_prove.specs.declared.asked.Asked.{Asked}
use Rattle.pdb_prove.proofs.TellingLemmas.{whole_told, written_behind}

-- what is told of this tells what comes of the claims, or memory is wanted, where it is taken
pub fault_told : (arguments : ProveArguments) (files : ClaimsFiles) (fault : verdict.Fault) (told : Result CommandAnswer AllocError)
    → IsCauseForClaims arguments.fold files fault
    → IfOk told (λ t. IsReplyOf t (reply_to_claims arguments.goal files (unready fault)) × (◌≢◌ {A = Result Verdict verdict.Fault} (Err fault) (Err Memory)))
    → OnErr told (◌≡◌ {A = Result Verdict verdict.Fault} (Err fault) (Err Memory))
    → IsAnswerBy (IsClaimsReply arguments.goal arguments.fold (budget_of arguments.budget) (in_order files)) (TakesMemoryForClaims (in_order files)) told
fault_told arguments files fault (Ok t) is says wants =
    let refused = cause_settled (IsUnready arguments.fold files) _ fault (λ same. says.1 (ap (λ x. Err x) same)) is in
    (reply_to_claims arguments.goal files (unready fault), (files, refl, record { outcome = unready fault; is_outcome = refused; told = refl }), says.0)
fault_told arguments files fault (Err e) is says wants =
    let same : fault ≡ Memory = cc in
    let takes = subst (IsCauseForClaims arguments.fold files) same is in
    (files, refl, takes.0, takes.1)

module _ {arguments : ProveArguments} {files : ClaimsFiles} {old read : World} (claims : List ShownClaim) (v : ShownBundle)
    (are : HasRead (prove_inputs arguments) old read (in_order files)) (ready : AreReady arguments.fold files claims v) where
  -- the digests were cut
  pub head_cut : {new : World} {fault : WriteFault} → IsWritten (digests_of (digested_files files)) read new (Err fault) → ProveEnds arguments old new Fault
  head_cut {new} {fault} head = inr (record {
    files = files;
    read = are.read;
    first = [];
    others = claims;
    bundle = v;
    ready = ready;
    told = [];
    each = tt;
    front = rw (append-nil (digests_of (digested_files files)), ← are.written) head.written;
    same = head.files ∙ are.files;
    calls = head.calls ∙ are.calls;
    failure = head.failed ∙ are.failed;
    reader = rw head.reader are.behind;
    is_fault = refl;
  })

module _ {arguments : ProveArguments} {files : ClaimsFiles} {old mid : World} {claims : List ShownClaim} {v : ShownBundle}
    (begun : HasBegun arguments files old mid claims v) where
  -- the lines were cut
  lines_cut : {new : World} → AreCut arguments.goal v (budget_of arguments.budget) mid new claims → ProveEnds arguments old new Fault
  lines_cut {new} cut =
      let are = begun.are in
      let all = written_behind begun.head cut.written in inr (record {
        files = files;
        read = are.read;
        first = cut.first;
        others = cut.others;
        bundle = v;
        ready = rw (← cut.order) begun.ready;
        told = cut.told;
        each = cut.each;
        front = rw (← are.written) all.written;
        same = all.files ∙ are.files;
        calls = all.calls ∙ are.calls;
        failure = all.failed ∙ are.failed;
        reader = rw all.reader are.behind;
        is_fault = refl;
      })

  -- all lines were written
  all_answered : {new : World} {is_yes : Bool} (status : Status) → AreAllTold arguments.goal v (budget_of arguments.budget) mid new claims is_yes
      → status ≡ status_of_reply is_yes → ProveEnds arguments old new status
  all_answered {new} {is_yes} status all is =
      let are = begun.are in
      let whole = written_behind begun.head all.written in
      let reply = reply_to_claims arguments.goal files (answered all.told) in inl (record {
        outcome = replied (in_order files) reply;
        cause = (
          are.read,
          (
            files,
            refl,
            record {
              outcome = answered all.told;
              is_outcome = record { claims = claims; bundle = v; ready = begun.ready; each = all.each };
              told = refl;
            },
          ),
        );
        spares = λ name under. let clash : None ≡ Some name = under in cc;
        files = whole.files ∙ are.files;
        calls = whole.calls ∙ are.calls;
        failure = λ name under. whole.failed ∙ are.failed;
        reader = rw whole.reader are.behind;
        said = inl (rw (← are.written) whole.written, rw (← all.yes) is);
      })

-- a run that has begun with claims none of which was told ends so
module _ {arguments : ProveArguments} {files : ClaimsFiles} {old mid : World} {v : ShownBundle} (first now : Asked)
    (begun : HasBegun arguments files old mid (claims_of first) v) (same : IsSameAsked first now)
    (goal : first.goal ≡ arguments.goal) (budget : first.budget ≡ budget_of arguments.budget) where
  -- where a line isn't all written
  pub ends_cut : {new : World} → AreCut now.goal v now.budget mid new (claims_of now) → ProveEnds arguments old new Fault
  ends_cut cut = lines_cut begun (rw (same.goal, goal, same.budget, budget, same.claims) at cut)

  -- where all are told
  pub ends_answered : {new : World} (status : Status) → length now.claims.items ≤ now.told → IsToldTo v mid new now
      → status ≡ status_of_reply now.is_yes → ProveEnds arguments old new status
  ends_answered status done told is = all_answered begun status (rw (same.goal, goal, same.budget, budget, same.claims) at (whole_told now done told)) is
