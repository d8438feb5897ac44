-- The numbers by which runs end.
use Rattle.std.proofs.Common.{◌≡◌, ◌∙◌, ◌⊎◌, ap, inl, inr, refl, sym, arith, Bool, true, false, ℕ, List, Option, Some, None}
use Rattle.std.specs.Io.KnownBytes.{Keeps}
use Rattle.byte_io.specs.Shelf.{Bytes}
use Rattle.byte_io.specs.Streams.{Output}
use Rattle.pdb_request.specs.Asked.{Asked, make_table, parts, prove, solve}
use Rattle.byte_io.specs.declared.shelf.KeepFault.TheVariants as keep
use Rattle.byte_io.specs.declared.streams.ReadFault.TheVariants as read
use Rattle.pdb_run.specs.Inputs.{Failures, HasFailed}
use Rattle.pdb_run.specs.Runs.{HasCause, IsAnswered, Outcome, Says, World, made_wrong, replied, spared, status_of, status_of_reply, unkept, unlisted}
use Rattle.pdb_run.specs.Runs.{unread, unwritable}
use Rattle.pdb_run.specs.Statuses.{status_number}
use Rattle.pdb_run.specs.Writing.{memory_line}
use Rattle.pdb_run.specs.declared.statuses.Status.{Status}
use Rattle.pdb_run.specs.declared.statuses.Status.TheVariants.{Fault, NoMemory, Refused, Yes}
use Rattle.pdb_run.proofs.AnswerLemmas.{IsAnswered-ends}
use Rattle.pdb_keep.proofs.KeptLemmas.{log_answered, table_answered}
use Rattle.pdb_words.specs.CommandLine.{Parses, asked_of}
use Rattle.pdb_program.specs.Programs.{AskToKeepNothing, EndsFor, HasFault, HasKept, IsCut, IsNumberOfStatus, RunsOn, SaysAll, TellsFor, plan_of}
use Rattle.pdb_program.specs.Refusals.{Refuses}
use Rattle.pdb_program.specs.Steps.{OnlyWrites}

-- a run that was cut is neither a yes nor a no
cut_fault : (asked : Asked) (old new : World) (status : Status) → IsCut asked old new status → status ≡ Fault
cut_fault (prove arguments) old new status cut = cut.is_fault
cut_fault _ old new status cut = absurd cut

-- so it isn't answered
cut_answers : (asked : Asked) (old new : World) (is_yes : Bool) → ¬ IsCut asked old new (status_of_reply is_yes)
cut_answers asked old new true cut = let clash : Yes ≡ Fault = cut_fault asked old new Yes cut in cc
cut_answers asked old new false cut = let clash : Refused ≡ Fault = cut_fault asked old new Refused cut in cc

-- a run whose number is that of a yes or a no is answered
pub answered_by : (asked : Asked) (old new : World) (is_yes : Bool) (number : ℕ)
    → IsNumberOfStatus (EndsFor asked old new) number → number ≡ status_number (status_of_reply is_yes)
    → IsAnswered (plan_of asked) old new (status_of_reply is_yes)
answered_by asked old new true number (Yes, e, inl ends) is = IsAnswered-ends (plan_of asked) old new Yes ends (inl refl)
answered_by asked old new false number (Refused, e, inl ends) is = IsAnswered-ends (plan_of asked) old new Refused ends (inr refl)
answered_by asked old new true number (Yes, e, inr cut) is = absurd (cut_answers asked old new true cut)
answered_by asked old new false number (Refused, e, inr cut) is = absurd (cut_answers asked old new false cut)
answered_by asked old new _ number (_, e, ends) is = absurd (omega arith)

-- ---- words that parse, where memory was refused

-- what is said of a fault in words that parse is want of memory
pub parsed_ends : (words : List Bytes) (old new : World) (old_err new_err : Option Bytes) (status : Status) → Parses words → OnlyWrites old new
    → Refuses words old.written new.written old_err new_err status → EndsFor (asked_of words) old new status
parsed_ends words old new old_err new_err status parses same = elim [
  | inl memory ↦ inl (record {
    outcome = unlisted;
    cause = tt;
    spares = tt;
    files = same.files;
    calls = same.calls;
    failure = same.failed;
    reader = same.reader;
    said = memory.0;
  })
  | inr (inl mistake) ↦ absurd (rw parses at mistake.0.among)
  | inr (inr (inl help)) ↦ absurd (rw parses at help.0)
  | inr (inr (inr version)) ↦ absurd (rw parses at version.0)
]

-- on the errors that tells nothing
unread_tells : (asked : Asked) (old : World) (old_out new_out : Output) (old_err new_err : Option Bytes) (status : Status)
    → Says memory_line NoMemory old_out new_out status → Keeps old_err new_err → TellsFor asked old old_err new_err status
unread_tells (parts arguments) old old_out new_out old_err new_err Fault said keeps = keeps
unread_tells (parts arguments) old old_out new_out old_err new_err NoMemory said keeps = keeps
unread_tells (parts arguments) old old_out new_out old_err new_err Yes said keeps = elim said [
  | inl whole ↦ let clash : Yes ≡ NoMemory = whole.1 in absurd cc
  | inr front ↦ let clash : Yes ≡ Fault = front.1 in absurd cc
]
unread_tells (parts arguments) old old_out new_out old_err new_err Refused said keeps = elim said [
  | inl whole ↦ let clash : Refused ≡ NoMemory = whole.1 in absurd cc
  | inr front ↦ let clash : Refused ≡ Fault = front.1 in absurd cc
]
unread_tells _ old old_out new_out old_err new_err status said keeps = keeps

-- nor does what is said of such a fault
pub parsed_tells : (words : List Bytes) (old : World) (new_out : Output) (old_err new_err : Option Bytes) (status : Status) → Parses words
    → Refuses words old.written new_out old_err new_err status → TellsFor (asked_of words) old old_err new_err status
parsed_tells words old new_out old_err new_err status parses = elim [
  | inl memory ↦ unread_tells (asked_of words) old old.written new_out old_err new_err status memory.0 memory.1
  | inr (inl mistake) ↦ absurd (rw parses at mistake.0.among)
  | inr (inr (inl help)) ↦ absurd (rw parses at help.0)
  | inr (inr (inr version)) ↦ absurd (rw parses at version.0)
]

-- ---- failures

-- what a run has to say is written whole where no write has failed
said_all : (asked : Asked) (old new : World) (number : ℕ) (status : Status) → number ≡ status_number status → EndsFor asked old new status
    → new.written.failed ≡ false → SaysAll asked old new number
said_all asked old new number status is (inl ends) calm = elim ends.said [
  | inl said ↦
      record { outcome = ends.outcome; cause = ends.cause; whole = said.0; is_status = is ∙ ap status_number said.1 }
  | inr cut ↦ let clash : true ≡ false = sym cut.0.1 ∙ calm in absurd cc
]
said_all (prove arguments) old new number status is (inr cut) calm = let clash : true ≡ false = sym cut.front.1 ∙ calm in absurd cc
said_all _ old new number status is (inr cut) calm = absurd cut

-- a reply is no fault
reply_fault : (is_yes : Bool) → ¬ (status_of_reply is_yes ≡ Fault)
reply_fault true is = let clash : Yes ≡ Fault = is in cc
reply_fault false is = let clash : Refused ≡ Fault = is in cc

-- the shelf or the reader
one_failed : (name : Option Bytes) (failed : Failures) → HasFailed name failed → (failed.shelf ≡ true) ⊎ (failed.reader ≡ true)
one_failed None failed is = inr is
one_failed (Some name) failed is = inl is

-- what has a cause and is a fault
fault_of : (asked : Asked) (old new : World) (outcome : Outcome) → HasCause (plan_of asked) old new.failed outcome → status_of outcome ≡ Fault
    → HasFault asked old new
fault_of asked old new (unread wanted read.F1) cause is = elim (one_failed wanted.name new.failed cause.cause) [
  | inl shelf ↦ inl shelf
  | inr reader ↦ inr (inl reader)
]
fault_of asked old new (unread wanted read.F2) cause is = inr (inr (inr (inl (wanted, cause))))
fault_of asked old new (unwritable name keep.F3) cause is = inl (cause.has_failed refl)
fault_of asked old new (unkept name keep.F3) cause is = inl (cause.has_failed refl)
fault_of asked old new (spared name) cause is = inr (inr (inr (inr (inl (name, cause)))))
fault_of asked old new made_wrong cause is = inr (inr (inr (inr (inr cause))))
fault_of asked old new (replied inputs reply) cause is = absurd (reply_fault reply.is_yes is)
fault_of asked old new _ cause is = let clash : NoMemory ≡ Fault = is in absurd cc

-- what ends with status 2
faulted : (asked : Asked) (old new : World) (number : ℕ) (status : Status) → number ≡ status_number status → EndsFor asked old new status
    → number ≡ 2 → HasFault asked old new
faulted asked old new number Fault is (inl ends) two = elim ends.said [
  | inl said ↦ fault_of asked old new ends.outcome ends.cause (sym said.1)
  | inr cut ↦ inr (inr (inl cut.0.1))
]
faulted (prove arguments) old new number Fault is (inr cut) two = inr (inr (inl cut.front.1))
faulted _ old new number Fault is (inr cut) two = absurd cut
faulted asked old new number _ is ends two = absurd (omega arith)

-- ---- a run on words

-- a yes has kept what was asked for
yes_keeps : (asked : Asked) (old new : World) → IsAnswered (plan_of asked) old new Yes → HasKept asked old new
yes_keeps (make_table arguments) old new answered = table_answered arguments old new answered
yes_keeps (solve arguments) old new answered = log_answered arguments old new answered
yes_keeps _ old new answered = answered.files

-- a run on words is what its steps make it
pub runs_on : (words : List Bytes) (old new : World) (old_err new_err : Option Bytes) (number : ℕ) (status : Status) → number ≡ status_number status
    → (Parses words → EndsFor (asked_of words) old new status)
    → ((Parses words → ⊥) → Refuses words old.written new.written old_err new_err status)
    → (Parses words → TellsFor (asked_of words) old old_err new_err status) → (AskToKeepNothing words → new.files ≡ old.files)
    → RunsOn words old new old_err new_err number
runs_on words old new old_err new_err number status is ends refuses tells same =
    let answered = λ (is_yes : Bool) (parses : Parses words).
    answered_by (asked_of words) old new is_yes number (status, is, ends parses) in
    record {
      answered = λ parses. elim [
        | inl zero ↦ (Yes, zero, answered true parses zero)
        | inr one ↦ (Refused, one, answered false parses one)
      ];
      ends = λ parses. (status, is, ends parses);
      whole = λ parses. said_all (asked_of words) old new number status is (ends parses);
      fault = λ parses. faulted (asked_of words) old new number status is (ends parses);
      refuses = λ fails. (status, is, refuses fails);
      tells = λ parses. (status, is, tells parses);
      kept = λ parses zero. yes_keeps (asked_of words) old new (answered true parses zero);
      same = same;
    }
