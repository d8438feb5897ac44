-- How a run ends, and that it has answered where it ends with a yes or a no.
use Rattle.std.proofs.Common.{◌≡◌, ◌∙◌, ◌⊎◌, List, Option, None, Some, arith, inl, inr, refl, subst, sym}
use Rattle.byte_io.specs.Shelf.{Bytes, Files}
use Rattle.pdb_run.specs.Answers.{IsReplyOf, answer_text}
use Rattle.byte_io.specs.declared.streams.ReadFault.{ReadFault}
use Rattle.pdb_run.specs.Commands.{Plan, Reply, Wanted}
use Rattle.pdb_run.specs.Calls.{with_keep}
use Rattle.pdb_run.specs.Io.{HasRead, HasReadAndTried, HasStopped, IsSaid}
use Rattle.pdb_run.specs.Runs.{Ends, HasCause, IsAnswered, IsFree, LeavesCalls, LeavesFailure, LeavesFiles, LeavesReader, MayReplace, Outcome}
use Rattle.pdb_run.specs.Runs.{SparesFiles, World, made_wrong, no_memory, replied, status_of, status_of_reply, text_of, unlisted, unread, with_kept}
use Rattle.pdb_run.specs.Steps.{HasBegun, kept_of}
use Rattle.pdb_run.specs.declared.answers.CommandAnswer.{CommandAnswer}
use Rattle.pdb_run.specs.declared.statuses.Status.{Status}
use Rattle.pdb_run.specs.declared.statuses.Status.TheVariants.{Yes, Refused}

named : (one other : Bytes) → Some one ≡ Some other → one ≡ other
named one other same = cc

-- the file that a plan keeps has one name: what may be replaced under it is free
pub named_alone : (plan : Plan) (files : Option Files) (inputs : List Bytes) {name : Bytes} → plan.keeps_under ≡ Some name
    → MayReplace plan files inputs name → IsFree plan files inputs
named_alone plan files inputs {name} some free = λ other under. subst (MayReplace plan files inputs) (named name other (sym some ∙ under)) free

module _ {plan : Plan} {old mid : World} {inputs : List Bytes} where
  -- what keeps nothing has begun once its inputs are read
  pub begun_reading : plan.keeps_under ≡ None → HasRead plan.inputs old mid inputs → HasBegun plan old mid inputs
  begun_reading none are = record {
    read = are.read;
    free = λ name under. let clash : None ≡ Some name = sym none ∙ under in absurd cc;
    behind = are.behind;
    calls = rw none are.calls;
    files = are.files;
    failed = are.failed;
    written = are.written;
  }

  -- and what keeps a file once its name is tried
  pub begun_trying : {name : Bytes} → plan.keeps_under ≡ Some name
      → HasReadAndTried plan name old mid inputs → HasBegun plan old mid inputs
  begun_trying some is = record {
    read = is.are.read;
    free = named_alone plan old.files inputs some is.free;
    behind = rw is.tried.reader is.are.behind;
    calls = rw (some, ← is.are.calls) is.tried.calls;
    files = is.tried.files ∙ is.are.files;
    failed = is.tried.failed ∙ is.are.failed;
    written = is.tried.written ∙ is.are.written;
  }

module _ {plan : Plan} {old mid new : World} {status : Status} where
  -- an outcome is said, for which there is cause, and which has left files, calls, failures and reader so
  pub ends_so : (outcome : Outcome) → IsSaid (text_of outcome) (status_of outcome) mid new status
      → HasCause plan old mid.failed outcome → SparesFiles plan old outcome → LeavesFiles plan old.files mid.files outcome
      → LeavesCalls plan old.calls mid.calls outcome → LeavesFailure plan old.failed mid.failed outcome
      → LeavesReader plan old.reader mid.reader outcome → mid.written ≡ old.written
      → Ends plan old new status
  ends_so outcome said cause spares files calls failure reader written = record {
    outcome = outcome;
    cause = rw said.failed cause;
    spares = spares;
    files = rw said.files files;
    calls = rw said.calls calls;
    failure = rw said.failed failure;
    reader = rw said.reader reader;
    said = rw (← written) said.said;
  }

  -- memory was wanted by the check of what was read
  wanting : {inputs : List Bytes} → HasBegun plan old mid inputs → plan.TakesMemory inputs
      → IsSaid (text_of no_memory) (status_of no_memory) mid new status → Ends plan old new status
  wanting are takes said =
      ends_so no_memory said (_, are.read, takes) (_, are.read, are.free) are.files are.calls are.failed are.behind are.written

  -- so it may be where nothing is kept
  pub ends_wanting : {inputs : List Bytes} → plan.keeps_under ≡ None → HasRead plan.inputs old mid inputs
      → plan.TakesMemory inputs → IsSaid (text_of no_memory) (status_of no_memory) mid new status
      → Ends plan old new status
  ends_wanting none are takes said = wanting (begun_reading none are) takes said

  -- and where a file is kept
  pub trial_wanting : {inputs : List Bytes} {name : Bytes} → plan.keeps_under ≡ Some name
      → HasReadAndTried plan name old mid inputs → plan.TakesMemory inputs
      → IsSaid (text_of no_memory) (status_of no_memory) mid new status → Ends plan old new status
  trial_wanting some are takes said = wanting (begun_trying some are) takes said

  -- what a maker of files made of it is wrong
  pub trial_wrong : {inputs : List Bytes} {name : Bytes} → plan.keeps_under ≡ Some name
      → HasReadAndTried plan name old mid inputs → plan.Makes inputs
      → IsSaid (text_of made_wrong) (status_of made_wrong) mid new status → Ends plan old new status
  trial_wrong some is makes said =
      let are = begun_trying {plan = plan} some is in
      ends_so made_wrong said (_, are.read, makes) (_, are.read, are.free) are.files are.calls are.failed are.behind are.written

  -- an answer is said, and what it keeps was kept
  pub ends_answered : {read : World} {inputs : List Bytes} {answer : CommandAnswer} {reply : Reply}
      → HasBegun plan old read inputs → plan.MayReply inputs reply → IsReplyOf answer reply
      → IsSaid (answer_text answer) (status_of_reply answer.is_yes) mid new status
      → mid.files ≡ with_kept read.files plan.keeps_under (kept_of answer)
      → mid.calls ≡ with_keep read.calls plan.keeps_under (kept_of answer)
      → mid.failed ≡ read.failed → mid.reader ≡ read.reader → mid.written ≡ read.written
      → Ends plan old new status
  ends_answered {inputs} {reply = reply} are right is said files calls failed reader written =
      ends_so (replied inputs reply)
      (rw (← is.digested, ← is.made, ← is.lines, ← is.is_yes) said) (are.read, right) are.free
      (rw (← are.files, ← is.made, ← is.is_yes) files) (rw (← are.calls, ← is.made, ← is.is_yes) calls)
      (λ _ _. failed ∙ are.failed) (rw reader are.behind) (written ∙ are.written)

  -- an input was not read
  pub ends_unread : {wanted : Wanted} {why : ReadFault} → HasStopped plan.inputs old mid wanted why
      → IsSaid (text_of (unread wanted why)) (status_of (unread wanted why)) mid new status → Ends plan old new status
  ends_unread {wanted} {why} stopped said =
      ends_so (unread wanted why) said stopped.first tt stopped.files
      (stopped.first.before, stopped.first.behind, stopped.first.order, stopped.calls) tt tt stopped.written

-- memory was wanted before any input was read
pub ends_unlisted : {plan : Plan} {old new : World} {status : Status}
    → IsSaid (text_of unlisted) (status_of unlisted) old new status → Ends plan old new status
ends_unlisted said = ends_so unlisted said tt tt refl refl refl refl refl

-- only a reply is a yes or a no
replied_so : (outcome : Outcome) → (status_of outcome ≡ Yes) ⊎ (status_of outcome ≡ Refused)
    → (inputs : List Bytes) × (reply : Reply) × (outcome ≡ replied inputs reply)
replied_so (replied inputs reply) answered = (inputs, reply, refl)
replied_so _ answered = absurd (grind arith)

-- what ends with a yes or a no has answered
pub IsAnswered-ends : (plan : Plan) (old new : World) (status : Status) → Ends plan old new status
    → (status ≡ Yes) ⊎ (status ≡ Refused) → IsAnswered plan old new status
IsAnswered-ends plan old new status ends answered = elim ends.said [
  | inl said ↦
      let is = replied_so ends.outcome (rw said.1 at answered) in
      record {
        inputs = is.0;
        reply = is.1;
        right = rw is.2 at ends.cause;
        free = rw is.2 at ends.spares;
        files = rw is.2 at ends.files;
        calls = rw is.2 at ends.calls;
        failure = rw is.2 at ends.failure;
        reader = rw is.2 at ends.reader;
        lines = rw is.2 at said.0;
        is_status = rw is.2 at said.1;
      }
  | inr front ↦ elim answered [ inl e ↦ cc front.1 | inr e ↦ cc front.1 ]
]
